-- Reads of a file: those so far, and how they end.
use Rattle.std.proofs.Common.{◌≡◌, ◌≢◌, ◌≤◌, ◌<◌, ◌+◌, ◌-◌, ◌∙◌, ℕ, zero, suc, take, List, [], ◌∷◌, ◌++◌, length, Option, None, Some, Result, Ok, Err, refl, sym, ap, subst, true, false, inl, inr, arith, append-nil, append_assoc, length-append, IfSome, MatchResult, Vec, Global}
use Rattle.std.specs.List.{All}
use Rattle.std.specs.Io.KnownBytes.{Consumes, Keeps, IsAtEnd}
use Rattle.std.proofs.lemmas.List.Elements.{All-nil, All-push}
use Rattle.std.proofs.lemmas.List.{take_all}
use Rattle.ccr_look.specs.declared.calls.Trouble.{Trouble}
use Rattle.ccr_look.specs.declared.calls.Trouble.TheVariants.{Interrupted, NoMemory, Other}
use Rattle.ccr_look.specs.declared.fault.CopyFault.{CopyFault}
use Rattle.ccr_look.specs.declared.fault.CopyFault.TheVariants as why
use Rattle.ccr_look.specs.declared.reads.TheConstants.{MOST_READS}
use Rattle.ccr_look.specs.Calls.{CallData, looked, opened, gave}
use Rattle.ccr_look.specs.Answers.{bytes_in, fault_of}
use Rattle.ccr_look.specs.Parts.{Adds, GoesOn, GivesBytes, GivesNoBytes, IsRead, FailsToRead}

bytes_in-append : (xs ys : List CallData) → bytes_in (xs ++ ys) ≡ bytes_in xs ++ bytes_in ys
bytes_in-append [] ys = refl
bytes_in-append (looked path found ∷ xs) ys = bytes_in-append xs ys
bytes_in-append (opened path answer ∷ xs) ys = bytes_in-append xs ys
bytes_in-append (gave path (Ok bytes) ∷ xs) ys =
    ap (λ (l : List ℕ). bytes ++ l) (bytes_in-append xs ys) ∙ sym (append_assoc bytes (bytes_in xs) (bytes_in ys))
bytes_in-append (gave path (Err trouble) ∷ xs) ys = bytes_in-append xs ys

-- a read more that gave these bytes, or none
more_bytes : (calls : List CallData) (path bytes : List ℕ) → bytes_in (calls ++ gave path (Ok bytes) ∷ []) ≡ bytes_in calls ++ bytes
more_bytes calls path bytes =
    bytes_in-append calls (gave path (Ok bytes) ∷ []) ∙ ap (λ (l : List ℕ). bytes_in calls ++ l) (append-nil bytes)

no_bytes : (calls : List CallData) (path : List ℕ) (trouble : Trouble) → bytes_in (calls ++ gave path (Err trouble) ∷ []) ≡ bytes_in calls
no_bytes calls path trouble = bytes_in-append calls (gave path (Err trouble) ∷ []) ∙ append-nil (bytes_in calls)

-- one call more, after these that were added
made-last : (before calls now next : List CallData) (c : CallData) → now ≡ before ++ calls → next ≡ now ++ c ∷ []
    → next ≡ before ++ (calls ++ c ∷ [])
made-last before calls now next c first noted = noted ∙ (ap (λ (l : List CallData). l ++ c ∷ []) first ∙ append_assoc before calls (c ∷ []))

length-last : (calls : List CallData) (c : CallData) → length (calls ++ c ∷ []) ≡ length calls + 1
length-last calls c = omega (arith, length-append calls (c ∷ []))

left_none : (a : Option (List ℕ)) → Consumes a a []
left_none None = tt
left_none (Some xs) = refl

left_more : (a b c : Option (List ℕ)) (xs ys : List ℕ) → Consumes a b xs → Consumes b c ys → Consumes a c (xs ++ ys)
left_more None b c xs ys first next = tt
left_more (Some us) None c xs ys first next = absurd first
left_more (Some us) (Some vs) None xs ys first next = next
left_more (Some us) (Some vs) (Some ws) xs ys first next = let e = append_assoc xs ys ws in cc

left_same : (a b : Option (List ℕ)) → Keeps a b → Consumes a b []
left_same None b same = tt
left_same (Some us) None same = same
left_same (Some us) (Some vs) same = sym same

-- the reads so far went on, and gave these bytes
pub record ReadsSoFar (old mid : Option (List ℕ)) (before now : List CallData) (path at : List ℕ) (most : ℕ) (bytes : List ℕ) (turns : ℕ) : Type 0 where
  pub calls : List CallData
  pub made : now ≡ before ++ calls
  pub went : All (GoesOn path) calls
  pub count : length calls ≡ turns
  pub given : bytes ≡ bytes_in calls
  pub few : length bytes ≤ most
  pub left : Consumes old mid bytes
  pub stays : at ≡ path

pub reading-none : {before : List CallData} (old : Option (List ℕ)) (path : List ℕ) (most : ℕ) (bytes : List ℕ) → bytes ≡ []
    → ReadsSoFar old old before before path path most bytes 0
reading-none {before} old path most bytes none = record {
  calls = [];
  made = sym (append-nil before);
  went = All-nil (GoesOn path);
  count = refl;
  given = none;
  few = rw none (omega arith);
  left = rw none (left_none old);
  stays = refl;
}

length-take-most : (n : ℕ) (xs : List ℕ) → length (take n xs) ≤ n
length-take-most zero xs = omega arith
length-take-most (suc n) [] = omega arith
length-take-most (suc n) (x ∷ xs) = omega (arith, length-take-most n xs)

some_taken : (n : ℕ) (xs : List ℕ) → n ≢ 0 → n ≤ length xs → take n xs ≢ []
some_taken zero xs some fits e = some refl
some_taken (suc n) [] some fits e = absurd (omega arith)
some_taken (suc n) (x ∷ xs) some fits e = cc

hungry_other : NoMemory ≢ Interrupted
hungry_other e = absurd cc

failed_other : Other ≢ Interrupted
failed_other e = absurd cc

module _ {before now : List CallData} (old mid : Option (List ℕ)) (path at : List ℕ) (most : ℕ) (bytes : List ℕ) (turns : ℕ)
    (r : ReadsSoFar old mid before now path at most bytes turns) where
  -- a read that gave a byte or more
  pub reading-more : (next : List CallData) (new : Option (List ℕ)) (n : ℕ) (buf more longer : List ℕ) (then : List ℕ) → next ≡ now ++ gave at (Ok (take n buf)) ∷ [] → n ≢ 0
      → n ≤ length buf → n ≤ most - length bytes → Consumes mid new (take n buf) → more ≡ take n buf → longer ≡ bytes ++ more → then ≡ at
      → ReadsSoFar old new before next path then most longer (turns + 1)
  reading-more next new n buf more longer then noted some fits short left same added stays =
      let c = gave path (Ok (take n buf)) in
      let noted' : next ≡ now ++ c ∷ [] = noted ∙ ap (λ (p : List ℕ). now ++ gave p (Ok (take n buf)) ∷ []) r.stays in
      let grown : longer ≡ bytes ++ take n buf = added ∙ ap (λ (l : List ℕ). bytes ++ l) same in
      record {
        calls = r.calls ++ c ∷ [];
        made = made-last before r.calls now next c r.made noted';
        went = All-push (GoesOn path) r.calls c r.went (refl, some_taken n buf some fits);
        count = length-last r.calls c ∙ ap (λ n. n + 1) r.count;
        given = grown ∙ ap (λ (l : List ℕ). l ++ take n buf) r.given ∙ sym (more_bytes r.calls path (take n buf));
        few = rw grown (omega (arith, length-append bytes (take n buf), r.few, short, length-take-most n buf));
        left = rw grown (left_more old mid new bytes (take n buf) r.left left);
        stays = stays ∙ r.stays;
      }

  -- an interrupted read
  pub reading-again : (next : List CallData) (new : Option (List ℕ)) (then : List ℕ) → next ≡ now ++ gave at (Err Interrupted) ∷ [] → Keeps mid new → then ≡ at
      → ReadsSoFar old new before next path then most bytes (turns + 1)
  reading-again next new then noted same stays =
      let c = gave path (Err Interrupted) in
      let noted' : next ≡ now ++ c ∷ [] = noted ∙ ap (λ (p : List ℕ). now ++ gave p (Err Interrupted) ∷ []) r.stays in
      record {
        calls = r.calls ++ c ∷ [];
        made = made-last before r.calls now next c r.made noted';
        went = All-push (GoesOn path) r.calls c r.went (refl, refl);
        count = length-last r.calls c ∙ ap (λ n. n + 1) r.count;
        given = r.given ∙ sym (no_bytes r.calls path Interrupted);
        few = r.few;
        left = rw (sym (append-nil bytes)) (left_more old mid new bytes [] r.left (left_same mid new same));
        stays = stays ∙ r.stays;
      }

  -- there are as many bytes as were asked for
  pub reading-full : most ≤ length bytes → Adds before now (GivesBytes path most bytes)
  reading-full full = (r.calls, r.made, (r.given, inl (r.went, omega (arith, r.few, full))))

  -- a read that gave none
  pub reading-end : (next : List CallData) (n : ℕ) (buf : List ℕ) → next ≡ now ++ gave at (Ok (take n buf)) ∷ [] → n ≡ 0
      → Adds before next (GivesBytes path most bytes)
  reading-end next n buf noted none =
      let c = gave path (Ok []) in
      let noted' : next ≡ now ++ c ∷ [] =
      noted ∙ ap (λ (p : List ℕ). now ++ gave p (Ok (take n buf)) ∷ []) r.stays
      ∙ ap (λ (n : ℕ). now ++ gave path (Ok (take n buf)) ∷ []) none in (
        r.calls ++ c ∷ [],
        made-last before r.calls now next c r.made noted',
        (
          r.given ∙ sym (append-nil (bytes_in r.calls)) ∙ sym (more_bytes r.calls path []),
          inr (r.calls, refl, r.went),
        ),
      )

  -- a read that met a trouble
  pub reading-trouble : (next : List CallData) (trouble : Trouble) (fault : CopyFault) → next ≡ now ++ gave at (Err trouble) ∷ [] → trouble ≢ Interrupted
      → fault ≡ fault_of trouble → Adds before next (GivesNoBytes path most fault)
  reading-trouble next trouble fault noted other told =
      let c = gave path (Err trouble) in
      let noted' : next ≡ now ++ c ∷ [] = noted ∙ ap (λ (p : List ℕ). now ++ gave p (Err trouble) ∷ []) r.stays in
      (r.calls ++ c ∷ [], made-last before r.calls now next c r.made noted', inl (trouble, (r.calls, refl, r.went), other, told))

  pub reading-hungry : (next : List CallData) → next ≡ now ++ gave at (Err NoMemory) ∷ [] → Adds before next (GivesNoBytes path most why.NoMemory)
  reading-hungry next noted = reading-trouble next NoMemory why.NoMemory noted hungry_other refl

  pub reading-failed : (next : List CallData) → next ≡ now ++ gave at (Err Other) ∷ [] → Adds before next (GivesNoBytes path most why.Unread)
  reading-failed next noted = reading-trouble next Other why.Unread noted failed_other refl

  -- a read that gave bytes for which there is no memory
  pub reading-no_memory : (next : List CallData) (n : ℕ) (buf : List ℕ) → next ≡ now ++ gave at (Ok (take n buf)) ∷ [] → n ≢ 0 → n ≤ length buf
      → Adds before next (GivesNoBytes path most why.NoMemory)
  reading-no_memory next n buf noted some fits =
      let c = gave path (Ok (take n buf)) in
      let noted' : next ≡ now ++ c ∷ [] = noted ∙ ap (λ (p : List ℕ). now ++ gave p (Ok (take n buf)) ∷ []) r.stays in (
        r.calls ++ c ∷ [],
        made-last before r.calls now next c r.made noted',
        inr (inl (All-push (GoesOn path) r.calls c r.went (refl, some_taken n buf some fits), refl)),
      )

  -- as many reads as are made
  pub reading-up : turns ≤ MOST_READS → MOST_READS ≤ turns → Adds before now (GivesNoBytes path most why.Unread)
  reading-up few many = (r.calls, r.made, inr (inr (r.went, omega (arith, r.count), refl)))

front_of : (xs ys : List ℕ) (n : ℕ) → length xs ≡ n → take n (xs ++ ys) ≡ xs
front_of [] ys zero e = refl
front_of [] ys (suc n) e = absurd (omega (arith, e))
front_of (x ∷ xs) ys zero e = absurd (omega (arith, e))
front_of (x ∷ xs) ys (suc n) e = ap (λ (l : List ℕ). x ∷ l) (front_of xs ys n (omega (arith, e)))

-- the bytes are the first of those that the file had, where they are known
pub whole-full : {before now : List CallData} (old mid : Option (List ℕ)) (path at : List ℕ) (most : ℕ) (bytes : List ℕ) (turns : ℕ)
    → ReadsSoFar old mid before now path at most bytes turns → most ≤ length bytes → IfSome old (λ all. bytes ≡ take most all)
whole-full None mid path at most bytes turns r full = tt
whole-full (Some all) None path at most bytes turns r full = absurd r.left
whole-full (Some all) (Some rest) path at most bytes turns r full =
    sym (ap (λ (l : List ℕ). take most l) r.left ∙ front_of bytes rest most (omega (arith, r.few, full)))

pub whole-end : {before now : List CallData} (old mid new : Option (List ℕ)) (path at : List ℕ) (most : ℕ) (bytes : List ℕ) (turns n : ℕ) (buf : List ℕ)
    → ReadsSoFar old mid before now path at most bytes turns → n ≡ 0 → Consumes mid new (take n buf) × (n ≡ 0 → 0 < length buf → IsAtEnd new)
    → 0 < length buf → IfSome old (λ all. bytes ≡ take most all)
whole-end old mid new path at most bytes turns n buf r none took room =
    let nothing : Consumes mid new [] = rw none at took.0 in
    let all : Consumes old new (bytes ++ []) = left_more old mid new bytes [] r.left nothing in
    at_end old new all (took.1 none room)
  where
    at_end : (old new : Option (List ℕ)) → Consumes old new (bytes ++ []) → IsAtEnd new → IfSome old (λ all. bytes ≡ take most all)
    at_end None new all end = tt
    at_end (Some xs) None all end = absurd all
    at_end (Some xs) (Some ys) all end =
        let is : xs ≡ bytes = all ∙ ap (λ (l : List ℕ). (bytes ++ []) ++ l) end ∙ append-nil (bytes ++ []) ∙ append-nil bytes in
        sym (ap (λ (l : List ℕ). take most l) is ∙ take_all most bytes r.few)

-- ---- an open, and the reads behind it

after_open : (a b c calls : List CallData) (o : CallData) → b ≡ a ++ o ∷ [] → c ≡ b ++ calls → c ≡ a ++ (o ∷ calls)
after_open a b c calls o first second = second ∙ (ap (λ (l : List CallData). l ++ calls) first ∙ append_assoc a (o ∷ []) calls)

pub opened_read : (a b c : List CallData) (path at : List ℕ) (most : ℕ) (result : Result (Vec ℕ Global) CopyFault) → b ≡ a ++ opened path (Ok true) ∷ []
    → at ≡ path
    → MatchResult result (λ bytes. Adds b c (GivesBytes at most bytes.items)) (λ fault. Adds b c (GivesNoBytes at most fault))
    → MatchResult result (λ bytes. Adds a c (IsRead path most bytes.items)) (λ fault. Adds a c (FailsToRead path most fault))
opened_read a b c path at most (Ok bytes) first same it =
    let given : Adds b c (GivesBytes path most bytes.items) = subst (λ (p : List ℕ). Adds b c (GivesBytes p most bytes.items)) same it in
    (opened path (Ok true) ∷ given.0, after_open a b c given.0 (opened path (Ok true)) first given.1, inr (given.0, refl, given.2))
opened_read a b c path at most (Err fault) first same it =
    let none : Adds b c (GivesNoBytes path most fault) = subst (λ (p : List ℕ). Adds b c (GivesNoBytes p most fault)) same it in
    (opened path (Ok true) ∷ none.0, after_open a b c none.0 (opened path (Ok true)) first none.1, inr (none.0, refl, none.2))

pub nothing_there : (a b : List CallData) (path : List ℕ) (most : ℕ) (bytes : List ℕ) → b ≡ a ++ opened path (Ok false) ∷ [] → bytes ≡ []
    → Adds a b (IsRead path most bytes)
nothing_there a b path most bytes first none = (opened path (Ok false) ∷ [], first, inl (refl, none))

pub not_opened : (a b : List CallData) (path : List ℕ) (most : ℕ) (trouble : Trouble) (fault : CopyFault) → b ≡ a ++ opened path (Err trouble) ∷ []
    → fault ≡ fault_of trouble → Adds a b (FailsToRead path most fault)
not_opened a b path most trouble fault first told = (opened path (Err trouble) ∷ [], first, inl (trouble, refl, told))
