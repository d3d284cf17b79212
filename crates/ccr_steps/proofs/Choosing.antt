-- Inputs and versions side by side.
use Rattle.std.proofs.Common.{arith, ◌≡◌, ℕ, ◌+◌, ◌≤◌, ◌<◌, true, false, ◌||◌, cond, string_bytes, get_or, List, [], ◌∷◌, map, drop, length, drop_of_length-le, refl, sym, ap, ◌∙◌}
use Rattle.std.proofs.lemmas.Cmp.{nat_list_eq_equiv}
use Rattle.std.proofs.lemmas.List.{length-map}
use Rattle.std.specs.Str.{bytes_eq}
use Rattle.ccr_history.specs.TextMap.{TextMap}
use Rattle.ccr_pipeline.specs.declared.input.Input.{Input}
use Rattle.ccr_pipeline.specs.Inputs.{InputData, input_data}
use Rattle.ccr_pipeline.specs.Tree.{Text}
use Rattle.ccr_pipeline.specs.Names.{has_name}
use Rattle.ccr_steps.specs.declared.inputs.ChosenInput.{ChosenInput}
use Rattle.ccr_steps.specs.Asks.{chosen, version_of}
use Rattle.ccr_steps.specs.Inputs.{chosen_data, chosen_names}
use Rattle.ccr_steps.proofs.GainLaws.{from_next}

-- nothing is left where the inputs have come to their end
pub chosen_past : (is : List Input) (vs : List TextMap) (i : ℕ) → length is ≤ i → chosen (map (λ d. d.name) (map input_data (drop i is))) vs ≡ []
chosen_past is vs i l = ap (λ ds. chosen (map (λ d. d.name) (map input_data ds)) vs) (drop_of_length-le is l)

-- as many versions as inputs
pub as_many : (is : List Input) (ds : List InputData) (vs : List TextMap) → map input_data is ≡ ds → length vs ≡ length ds → length is ≡ length vs
as_many is ds vs e n = sym (length-map is input_data) ∙ ap length e ∙ sym n

-- with a version for each name, each name is there
pub names_chosen : (ns : List Text) (vs : List TextMap) → length vs ≡ length ns → chosen_names (chosen ns vs) ≡ ns
names_chosen [] vs e = refl
names_chosen (n ∷ ns) [] e = absurd (omega arith)
names_chosen (n ∷ ns) (v ∷ vs) e =
    let rest : length vs ≡ length ns = omega arith in
    ap (λ l. n ∷ l) (names_chosen ns vs rest)

-- an input of another name is passed by: the version is that among the rest, where the name still is
pub look_on : (is : List ChosenInput) (i : ℕ) (d : ChosenInput) (n : Text) (v : TextMap) → i < length is → d ≡ get_or is i d → bytes_eq (string_bytes d.name) n ≡ false → version_of (map chosen_data (drop i is)) n ≡ v → has_name (chosen_names (map chosen_data (drop i is))) n ≡ true → (version_of (map chosen_data (drop (i + 1) is)) n ≡ v) × (has_name (chosen_names (map chosen_data (drop (i + 1) is))) n ≡ true)
look_on is i d n v l at other found there =
    let cut = from_next is i d l at in
    let back : bytes_eq n (string_bytes d.name) ≡ false = nat_list_eq_equiv.symm n (string_bytes d.name) ∙ other in (
      sym (ap (λ ds. version_of (map chosen_data ds) n) cut ∙ ap (λ b. cond b d.version (version_of (map chosen_data (drop (i + 1) is)) n)) other) ∙ found,
      sym (ap (λ ds. has_name (chosen_names (map chosen_data ds)) n) cut ∙ ap (λ b. b || has_name (chosen_names (map chosen_data (drop (i + 1) is))) n) back) ∙ there,
    )
