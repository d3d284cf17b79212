-- Calls on a pipe: those that went on, and the last one.
use Rattle.std.proofs.Common.{◌≡◌, ◌≢◌, ◌≤◌, ◌<◌, ℕ, zero, suc, ◌+◌, take, drop, take-append-drop, List, [], ◌∷◌, ◌++◌, length, Bool, true, false, Option, None, Some, Result, Ok, Err, Vec, Global, refl, sym, ap, ◌∙◌, inl, inr, arith, append-nil, append_assoc, length-append, IfSome}
use Rattle.std.specs.List.{All}
use Rattle.std.specs.Bool.{if◌then◌else◌}
use Rattle.std.specs.Io.KnownBytes.{Appends, Consumes, Keeps, IsAtEnd}
use Rattle.std.proofs.lemmas.List.Elements.{All-nil, All-push}
use Rattle.ccr_process.specs.declared.pipes.TheConstants.{MOST_OUTPUT, MOST_CALLS}
use Rattle.ccr_process.specs.declared.pipes.GiveFault.{GiveFault}
use Rattle.ccr_process.specs.declared.pipes.GiveFault.TheVariants.{InputFault}
use Rattle.ccr_process.specs.declared.pipes.TakeFault.{TakeFault}
use Rattle.ccr_process.specs.declared.pipes.TakeFault.TheVariants.{ReadFault, TooLong, NoMemory}
use Rattle.ccr_process.specs.declared.noted.Trouble.TheVariants.{Interrupted, Closed, Failed}
use Rattle.ccr_process.specs.Pipes.{CallData, transferred, troubled, bytes_of, all_bytes, GoesOn, EndsWith, EndsWriting, GivesInput, IsWithin, EndsReading, TakesOutput}

all_bytes-last : (calls : List CallData) (c : CallData) → all_bytes (calls ++ c ∷ []) ≡ all_bytes calls ++ bytes_of c
all_bytes-last [] c = append-nil (bytes_of c)
all_bytes-last (d ∷ calls) c = ap (λ (l : List ℕ). bytes_of d ++ l) (all_bytes-last calls c) ∙ sym (append_assoc (bytes_of d) (all_bytes calls) (bytes_of c))

-- one call more, after these that were added
made-last : (before calls now next : List CallData) (c : CallData) → now ≡ before ++ calls → next ≡ now ++ c ∷ [] → next ≡ before ++ (calls ++ c ∷ [])
made-last before calls now next c first noted = noted ∙ (ap (λ (l : List CallData). l ++ c ∷ []) first ∙ append_assoc before calls (c ∷ []))

length-last : (calls : List CallData) (c : CallData) → length (calls ++ c ∷ []) ≡ length calls + 1
length-last calls c = omega (arith, length-append calls (c ∷ []))

-- ---- what a writer holds

holds_none : (a : Option (List ℕ)) → Appends a a []
holds_none None = tt
holds_none (Some xs) = sym (append-nil xs)

holds_more : (a b c : Option (List ℕ)) (xs ys : List ℕ) → Appends a b xs → Appends b c ys → Appends a c (xs ++ ys)
holds_more None b c xs ys first next = tt
holds_more (Some us) None c xs ys first next = absurd first
holds_more (Some us) (Some vs) None xs ys first next = next
holds_more (Some us) (Some vs) (Some ws) xs ys first next = let e = append_assoc us xs ys in cc

holds_same : (a b : Option (List ℕ)) → Keeps a b → Appends a b []
holds_same None b same = tt
holds_same (Some us) None same = same
holds_same (Some us) (Some vs) same = let e = append-nil us in cc

same_held : (a b : Option (List ℕ)) → Appends a b [] → Keeps a b
same_held None b more = tt
same_held (Some us) None more = more
same_held (Some us) (Some vs) more = more ∙ append-nil us

-- the writes so far went on, and this is left of the input
pub record WritesSoFar (old mid : Option (List ℕ)) (before now : List CallData) (input rest : List ℕ) (turns : ℕ) : Type 0 where
  pub calls : List CallData
  pub made : now ≡ before ++ calls
  pub went : All GoesOn calls
  pub count : length calls ≡ turns
  pub split : input ≡ all_bytes calls ++ rest
  pub holds : Appends old mid (all_bytes calls)

pub writing-none : {before : List CallData} (old : Option (List ℕ)) (input : List ℕ) → WritesSoFar old old before before input input 0
writing-none {before} old input = record { calls = []; made = sym (append-nil before); went = All-nil GoesOn; count = refl; split = refl; holds = holds_none old }

-- one write more
split-more : (input before taken rest more : List ℕ) → input ≡ before ++ rest → rest ≡ taken ++ more → input ≡ (before ++ taken) ++ more
split-more input before taken rest more first next = let e = append_assoc before taken more in cc

pub writing-more : {before now next : List CallData} (old mid new : Option (List ℕ)) (input rest more : List ℕ) (turns : ℕ) (c : CallData) → WritesSoFar old mid before now input rest turns → next ≡ now ++ c ∷ [] → GoesOn c → rest ≡ bytes_of c ++ more → Appends mid new (bytes_of c) → WritesSoFar old new before next input more (turns + 1)
writing-more {before} {now} {next} old mid new input rest more turns c w noted goes split holds = record {
  calls = w.calls ++ c ∷ [];
  made = made-last before w.calls now next c w.made noted;
  went = All-push GoesOn w.calls c w.went goes;
  count = length-last w.calls c ∙ ap (λ n. n + 1) w.count;
  split = rw (all_bytes-last w.calls c) (split-more input (all_bytes w.calls) (bytes_of c) rest more w.split split);
  holds = rw (all_bytes-last w.calls c) (holds_more old mid new (all_bytes w.calls) (bytes_of c) w.holds holds);
}

-- an interrupted write
pub writing-again : {before now next : List CallData} (old mid new : Option (List ℕ)) (input rest : List ℕ) (turns : ℕ) → WritesSoFar old mid before now input rest turns → next ≡ now ++ troubled Interrupted ∷ [] → Keeps mid new → WritesSoFar old new before next input rest (turns + 1)
writing-again old mid new input rest turns w noted same = writing-more old mid new input rest rest turns (troubled Interrupted) w noted tt refl (holds_same mid new same)

-- the input is written whole
pub writing-whole : {before now : List CallData} (old mid : Option (List ℕ)) (input rest : List ℕ) (turns : ℕ) → WritesSoFar old mid before now input rest turns → rest ≡ [] → turns ≤ MOST_CALLS → GivesInput before old input (Ok tt) now mid
writing-whole old mid input rest turns w none few = (
  w.calls,
  w.made,
  rest,
  omega (arith, w.count),
  w.split,
  w.holds,
  inl (w.went, (let e = append-nil (all_bytes w.calls) in let s = w.split in cc)),
)

some_taken : (n : ℕ) (xs : List ℕ) → n ≢ 0 → n ≤ length xs → take n xs ≢ []
some_taken zero xs some fits e = some refl
some_taken (suc n) [] some fits e = absurd (omega arith)
some_taken (suc n) (x ∷ xs) some fits e = cc

-- a write that took a byte or more
pub writing-taken : {before now next : List CallData} (old mid new : Option (List ℕ)) (input rest more : List ℕ) (turns n : ℕ) → WritesSoFar old mid before now input rest turns → next ≡ now ++ transferred (take n rest) ∷ [] → n ≢ 0 → n ≤ length rest → more ≡ drop n rest → Appends mid new (take n rest) → WritesSoFar old new before next input more (turns + 1)
writing-taken old mid new input rest more turns n w noted some fits left holds = writing-more old mid new input rest more turns (transferred (take n rest)) w noted (some_taken n rest some fits) (rw left (sym (take-append-drop n rest))) holds

-- a last write that moved nothing
pub writing-last : {before now next : List CallData} (old mid new : Option (List ℕ)) (input rest : List ℕ) (turns : ℕ) (c : CallData) (result : Result Unit GiveFault) → WritesSoFar old mid before now input rest turns → next ≡ now ++ c ∷ [] → turns < MOST_CALLS → bytes_of c ≡ [] → Keeps mid new → ((calls : List CallData) → EndsWith c calls → EndsWriting input calls result) → GivesInput before old input result next new
writing-last {before} {now} {next} old mid new input rest turns c result w noted few none same ends =
    let all : all_bytes (w.calls ++ c ∷ []) ≡ all_bytes w.calls = all_bytes-last w.calls c ∙ ap (λ (l : List ℕ). all_bytes w.calls ++ l) none ∙ append-nil (all_bytes w.calls) in
    let held : Appends mid new (bytes_of c) = rw none (holds_same mid new same) in (
      w.calls ++ c ∷ [],
      made-last before w.calls now next c w.made noted,
      rest,
      omega (arith, length-last w.calls c, w.count),
      rw all w.split,
      rw (all_bytes-last w.calls c) (holds_more old mid new (all_bytes w.calls) (bytes_of c) w.holds held),
      ends (w.calls ++ c ∷ []) (w.calls, refl, w.went),
    )

-- a write that took no byte
pub writing-nothing : {before now next : List CallData} (old mid new : Option (List ℕ)) (input rest : List ℕ) (turns n : ℕ) → WritesSoFar old mid before now input rest turns → next ≡ now ++ transferred (take n rest) ∷ [] → turns < MOST_CALLS → n ≡ 0 → Appends mid new (take n rest) → GivesInput before old input (Err InputFault) next new
writing-nothing {before} {now} {next} old mid new input rest turns n w noted few none holds =
    let nothing : Appends mid new [] = rw none at holds in
    let empty : next ≡ now ++ transferred [] ∷ [] = rw none at noted in
    writing-last old mid new input rest turns (transferred []) (Err InputFault) w empty few refl (same_held mid new nothing) (λ calls ends. inr (inl ends))

-- a write that was refused
pub writing-closed : {before now next : List CallData} (old mid new : Option (List ℕ)) (input rest : List ℕ) (turns : ℕ) → WritesSoFar old mid before now input rest turns → next ≡ now ++ troubled Closed ∷ [] → turns < MOST_CALLS → Keeps mid new → GivesInput before old input (Ok tt) next new
writing-closed old mid new input rest turns w noted few same = writing-last old mid new input rest turns (troubled Closed) (Ok tt) w noted few refl same (λ calls ends. inr ends)

pub writing-failed : {before now next : List CallData} (old mid new : Option (List ℕ)) (input rest : List ℕ) (turns : ℕ) → WritesSoFar old mid before now input rest turns → next ≡ now ++ troubled Failed ∷ [] → turns < MOST_CALLS → Keeps mid new → GivesInput before old input (Err InputFault) next new
writing-failed old mid new input rest turns w noted few same = writing-last old mid new input rest turns (troubled Failed) (Err InputFault) w noted few refl same (λ calls ends. inl ends)

-- the greatest number of writes
pub writing-up : {before now : List CallData} (old mid : Option (List ℕ)) (input rest : List ℕ) (turns : ℕ) → WritesSoFar old mid before now input rest turns → turns ≤ MOST_CALLS → MOST_CALLS ≤ turns → GivesInput before old input (Err InputFault) now mid
writing-up old mid input rest turns w few many =
    (w.calls, w.made, rest, omega (arith, w.count), w.split, w.holds, inr (inr (w.went, omega (arith, w.count))))

-- ---- what a reader has left

left_none : (a : Option (List ℕ)) → Consumes a a []
left_none None = tt
left_none (Some xs) = refl

left_more : (a b c : Option (List ℕ)) (xs ys : List ℕ) → Consumes a b xs → Consumes b c ys → Consumes a c (xs ++ ys)
left_more None b c xs ys first next = tt
left_more (Some us) None c xs ys first next = absurd first
left_more (Some us) (Some vs) None xs ys first next = next
left_more (Some us) (Some vs) (Some ws) xs ys first next = let e = append_assoc xs ys ws in cc

left_same : (a b : Option (List ℕ)) → Keeps a b → Consumes a b []
left_same None b same = tt
left_same (Some us) None same = same
left_same (Some us) (Some vs) same = sym same

-- a reader at its end gave all that it had
left_all : (a b : Option (List ℕ)) (xs : List ℕ) → Consumes a b xs → IsAtEnd b → IfSome a (λ all. xs ≡ all)
left_all None b xs gave end = tt
left_all (Some us) None xs gave end = absurd gave
left_all (Some us) (Some vs) xs gave end = let e = append-nil xs in cc

-- the reads so far went on, and gave this output
pub record ReadsSoFar (old mid : Option (List ℕ)) (before now : List CallData) (keep : Bool) (output : List ℕ) (turns : ℕ) : Type 0 where
  pub calls : List CallData
  pub made : now ≡ before ++ calls
  pub went : All GoesOn calls
  pub count : length calls ≡ turns
  pub kept : output ≡ (if keep then all_bytes calls else [])
  pub fits : length output ≤ MOST_OUTPUT
  pub left : Consumes old mid (all_bytes calls)

pub reading-none : {before : List CallData} (old : Option (List ℕ)) (keep : Bool) (output : List ℕ) → output ≡ [] → ReadsSoFar old old before before keep output 0
reading-none {before} old true output none = record { calls = []; made = sym (append-nil before); went = All-nil GoesOn; count = refl; kept = none; fits = rw none (omega arith); left = left_none old }
reading-none {before} old false output none = record { calls = []; made = sym (append-nil before); went = All-nil GoesOn; count = refl; kept = none; fits = rw none (omega arith); left = left_none old }

kept-more : (keep : Bool) (before after xs ys : List ℕ) → before ≡ (if keep then xs else []) → after ≡ before ++ (if keep then ys else []) → after ≡ (if keep then xs ++ ys else [])
kept-more true before after xs ys was is = cc
kept-more false before after xs ys was is = rw (is, was) refl

-- one read more
pub reading-more : {before now next : List CallData} (old mid new : Option (List ℕ)) (keep : Bool) (output longer : List ℕ) (turns : ℕ) (c : CallData) → ReadsSoFar old mid before now keep output turns → next ≡ now ++ c ∷ [] → GoesOn c → longer ≡ output ++ (if keep then bytes_of c else []) → length longer ≤ MOST_OUTPUT → Consumes mid new (bytes_of c) → ReadsSoFar old new before next keep longer (turns + 1)
reading-more {before} {now} {next} old mid new keep output longer turns c r noted goes added fits left = record {
  calls = r.calls ++ c ∷ [];
  made = made-last before r.calls now next c r.made noted;
  went = All-push GoesOn r.calls c r.went goes;
  count = length-last r.calls c ∙ ap (λ n. n + 1) r.count;
  kept = rw (all_bytes-last r.calls c) (kept-more keep output longer (all_bytes r.calls) (bytes_of c) r.kept added);
  fits = fits;
  left = rw (all_bytes-last r.calls c) (left_more old mid new (all_bytes r.calls) (bytes_of c) r.left left);
}

none_kept : (keep : Bool) (output : List ℕ) → output ≡ output ++ (if keep then [] else [])
none_kept true output = sym (append-nil output)
none_kept false output = sym (append-nil output)

-- an interrupted read
pub reading-again : {before now next : List CallData} (old mid new : Option (List ℕ)) (keep : Bool) (output : List ℕ) (turns : ℕ) → ReadsSoFar old mid before now keep output turns → next ≡ now ++ troubled Interrupted ∷ [] → Keeps mid new → ReadsSoFar old new before next keep output (turns + 1)
reading-again old mid new keep output turns r noted same = reading-more old mid new keep output output turns (troubled Interrupted) r noted tt (none_kept keep output) r.fits (left_same mid new same)

within : (keep : Bool) (output bytes : List ℕ) → output ≡ (if keep then bytes else []) → length output ≤ MOST_OUTPUT → keep ≡ true → length bytes ≤ MOST_OUTPUT
within true output bytes kept fits e = rw (← kept) fits
within false output bytes kept fits e = absurd cc

-- a last read that gave nothing
reading-last : {before now next : List CallData} (old mid new : Option (List ℕ)) (keep : Bool) (output : List ℕ) (turns : ℕ) (c : CallData) (result : Result (Vec ℕ Global) TakeFault) → ReadsSoFar old mid before now keep output turns → next ≡ now ++ c ∷ [] → turns < MOST_CALLS → bytes_of c ≡ [] → Keeps mid new → ((calls : List CallData) → EndsWith c calls → IsWithin keep calls → output ≡ (if keep then all_bytes calls else []) → EndsReading keep calls result) → TakesOutput before old keep result next new
reading-last {before} {now} {next} old mid new keep output turns c result r noted few none same ends =
    let all : all_bytes (r.calls ++ c ∷ []) ≡ all_bytes r.calls = all_bytes-last r.calls c ∙ ap (λ (l : List ℕ). all_bytes r.calls ++ l) none ∙ append-nil (all_bytes r.calls) in
    let gave : Consumes mid new (bytes_of c) = rw none (left_same mid new same) in (
      r.calls ++ c ∷ [],
      made-last before r.calls now next c r.made noted,
      omega (arith, length-last r.calls c, r.count),
      rw (all_bytes-last r.calls c) (left_more old mid new (all_bytes r.calls) (bytes_of c) r.left gave),
      ends (r.calls ++ c ∷ []) (r.calls, refl, r.went) (rw all (within keep output (all_bytes r.calls) r.kept r.fits)) (rw all r.kept),
    )

-- the end of the output
pub reading-end : {before now next : List CallData} (old mid new : Option (List ℕ)) (keep : Bool) (output : Vec ℕ Global) (turns n : ℕ) (buf : List ℕ) → ReadsSoFar old mid before now keep output.items turns → next ≡ now ++ transferred (take n buf) ∷ [] → turns < MOST_CALLS → n ≡ 0 → Consumes mid new (take n buf) → TakesOutput before old keep (Ok output) next new
reading-end {before} {now} {next} old mid new keep output turns n buf r noted few none gave =
    let nothing : Consumes mid new [] = rw none at gave in
    let empty : next ≡ now ++ transferred [] ∷ [] = rw none at noted in (
      r.calls ++ transferred [] ∷ [],
      made-last before r.calls now next (transferred []) r.made empty,
      omega (arith, length-last r.calls (transferred []), r.count),
      rw (all_bytes-last r.calls (transferred [])) (left_more old mid new (all_bytes r.calls) [] r.left nothing),
      (
        (r.calls, refl, r.went),
        rw (all_bytes-last r.calls (transferred []), append-nil (all_bytes r.calls)) (within keep output.items (all_bytes r.calls) r.kept r.fits),
        rw (all_bytes-last r.calls (transferred []), append-nil (all_bytes r.calls)) r.kept,
      ),
    )

-- a read that failed
pub reading-closed : {before now next : List CallData} (old mid new : Option (List ℕ)) (keep : Bool) (output : List ℕ) (turns : ℕ) → ReadsSoFar old mid before now keep output turns → next ≡ now ++ troubled Closed ∷ [] → turns < MOST_CALLS → Keeps mid new → TakesOutput before old keep (Err ReadFault) next new
reading-closed old mid new keep output turns r noted few same = reading-last old mid new keep output turns (troubled Closed) (Err ReadFault) r noted few refl same (λ calls ends fits kept. (inl ends, fits))

pub reading-failed : {before now next : List CallData} (old mid new : Option (List ℕ)) (keep : Bool) (output : List ℕ) (turns : ℕ) → ReadsSoFar old mid before now keep output turns → next ≡ now ++ troubled Failed ∷ [] → turns < MOST_CALLS → Keeps mid new → TakesOutput before old keep (Err ReadFault) next new
reading-failed old mid new keep output turns r noted few same = reading-last old mid new keep output turns (troubled Failed) (Err ReadFault) r noted few refl same (λ calls ends fits kept. (inr ends, fits))

-- a read that gave more than is kept, or than there is memory for
beyond : (keep : Bool) (output bytes more : List ℕ) → output ≡ (if keep then bytes else []) → keep ≡ true → length output + length more ≡ length (bytes ++ more)
beyond true output bytes more kept e = rw kept (sym (length-append bytes more))
beyond false output bytes more kept e = absurd cc

pub reading-long : {before now next : List CallData} (old mid new : Option (List ℕ)) (keep : Bool) (output more : List ℕ) (turns : ℕ) → ReadsSoFar old mid before now keep output turns → next ≡ now ++ transferred more ∷ [] → turns < MOST_CALLS → more ≢ [] → keep ≡ true → MOST_OUTPUT < length output + length more → Consumes mid new more → TakesOutput before old keep (Err TooLong) next new
reading-long {before} {now} {next} old mid new keep output more turns r noted few some is long left = (
  r.calls ++ transferred more ∷ [],
  made-last before r.calls now next (transferred more) r.made noted,
  omega (arith, length-last r.calls (transferred more), r.count),
  rw (all_bytes-last r.calls (transferred more)) (left_more old mid new (all_bytes r.calls) more r.left left),
  (
    All-push GoesOn r.calls (transferred more) r.went some,
    inl (is, rw (all_bytes-last r.calls (transferred more)) (omega (arith, beyond keep output (all_bytes r.calls) more r.kept is))),
  ),
)

pub reading-no_memory : {before now next : List CallData} (old mid new : Option (List ℕ)) (keep : Bool) (output more : List ℕ) (turns : ℕ) → ReadsSoFar old mid before now keep output turns → next ≡ now ++ transferred more ∷ [] → turns < MOST_CALLS → more ≢ [] → keep ≡ true → length output + length more ≤ MOST_OUTPUT → Consumes mid new more → TakesOutput before old keep (Err NoMemory) next new
reading-no_memory {before} {now} {next} old mid new keep output more turns r noted few some is short left = (
  r.calls ++ transferred more ∷ [],
  made-last before r.calls now next (transferred more) r.made noted,
  omega (arith, length-last r.calls (transferred more), r.count),
  rw (all_bytes-last r.calls (transferred more)) (left_more old mid new (all_bytes r.calls) more r.left left),
  (
    All-push GoesOn r.calls (transferred more) r.went some,
    is,
    rw (all_bytes-last r.calls (transferred more)) (λ e. omega (arith, beyond keep output (all_bytes r.calls) more r.kept is)),
  ),
)

-- a refusal, as the call that keeps bytes gives it
abbrev refused : TakeFault → Result Unit TakeFault
refused fault = Err fault

-- a read whose bytes can't be kept
pub reading-over : {before now next : List CallData} (old mid new : Option (List ℕ)) (keep : Bool) (output : List ℕ) (turns n size : ℕ) (buf more : List ℕ) (fault : TakeFault) → ReadsSoFar old mid before now keep output turns → next ≡ now ++ transferred (take n buf) ∷ [] → turns < MOST_CALLS → n ≢ 0 → n ≤ length buf → Consumes mid new (take n buf) → keep ≡ true → refused fault ≢ refused ReadFault → (refused fault ≡ refused TooLong → MOST_OUTPUT < size + length more) → (refused fault ≡ refused NoMemory → size + length more ≤ MOST_OUTPUT) → size ≡ length output → more ≡ take n buf → TakesOutput before old keep (Err fault) next new
reading-over old mid new keep output turns n size buf more ReadFault r noted few some fits left is readable long full sized same = absurd (readable refl)
reading-over old mid new keep output turns n size buf more TooLong r noted few some fits left is readable long full sized same =
    let over : MOST_OUTPUT < length output + length (take n buf) = rw (← same, ← sized) (long refl) in
    reading-long old mid new keep output (take n buf) turns r noted few (some_taken n buf some fits) is over left
reading-over old mid new keep output turns n size buf more NoMemory r noted few some fits left is readable long full sized same =
    let short : length output + length (take n buf) ≤ MOST_OUTPUT = rw (← same, ← sized) (full refl) in
    reading-no_memory old mid new keep output (take n buf) turns r noted few (some_taken n buf some fits) is short left

-- a read whose bytes are kept, or dropped
pub reading-taken : {before now next : List CallData} (old mid new : Option (List ℕ)) (keep : Bool) (output longer : List ℕ) (turns n size : ℕ) (buf more : List ℕ) → ReadsSoFar old mid before now keep output turns → next ≡ now ++ transferred (take n buf) ∷ [] → n ≢ 0 → n ≤ length buf → Consumes mid new (take n buf) → longer ≡ output ++ (if keep then more else []) → size ≤ MOST_OUTPUT → size ≡ length longer → more ≡ take n buf → ReadsSoFar old new before next keep longer (turns + 1)
reading-taken old mid new keep output longer turns n size buf more r noted some fits left added short sized same =
    let grown : longer ≡ output ++ (if keep then take n buf else []) = rw same at added in
    let within_most : length longer ≤ MOST_OUTPUT = rw (← sized) short in
    reading-more old mid new keep output longer turns (transferred (take n buf)) r noted (some_taken n buf some fits) grown within_most left

-- the greatest number of reads
pub reading-up : {before now : List CallData} (old mid : Option (List ℕ)) (keep : Bool) (output : List ℕ) (turns : ℕ) → ReadsSoFar old mid before now keep output turns → turns ≤ MOST_CALLS → MOST_CALLS ≤ turns → TakesOutput before old keep (Err TooLong) now mid
reading-up old mid keep output turns r few many =
    (r.calls, r.made, omega (arith, r.count), r.left, (r.went, inr (omega (arith, r.count))))

-- all of a reader's bytes are the output, where it is kept
pub reading-whole : {before now : List CallData} (old mid new : Option (List ℕ)) (keep : Bool) (output : List ℕ) (turns : ℕ) → ReadsSoFar old mid before now keep output turns → Consumes mid new [] → IsAtEnd new → keep ≡ true → IfSome old (λ all. output ≡ all)
reading-whole old mid new keep output turns r gave end is =
    let all : Consumes old new (all_bytes r.calls) = rw (← append-nil (all_bytes r.calls)) (left_more old mid new (all_bytes r.calls) [] r.left gave) in
    rw (kept_all keep output (all_bytes r.calls) r.kept is) (left_all old new (all_bytes r.calls) all end)
  where
    kept_all : (keep : Bool) (output bytes : List ℕ) → output ≡ (if keep then bytes else []) → keep ≡ true → output ≡ bytes
    kept_all true output bytes kept e = kept
    kept_all false output bytes kept e = absurd cc

-- the same, by a read that gave nothing though there was room
pub reading-whole-at : {before now : List CallData} (old mid new : Option (List ℕ)) (keep : Bool) (output : List ℕ) (turns n : ℕ) (buf : List ℕ) → ReadsSoFar old mid before now keep output turns → n ≡ 0 → Consumes mid new (take n buf) × (n ≡ 0 → 0 < length buf → IsAtEnd new) → 0 < length buf → keep ≡ true → IfSome old (λ all. output ≡ all)
reading-whole-at old mid new keep output turns n buf r none gave room is =
    let nothing : Consumes mid new [] = rw none at gave.0 in
    reading-whole old mid new keep output turns r nothing (gave.1 none room) is
