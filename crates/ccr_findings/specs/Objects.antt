-- What is found in a pipeline's value, object by object: its keys without effect, and its gates that hold nothing.
use Rattle.std.specs.Prelude.{ℕ, ◌+◌, List, [], ◌∷◌, ◌++◌, Bool, true, false, not, ◌&&◌, ◌||◌, Option, Some, None, option_and_then, map, is_some, codes, if◌then◌else◌}
use Rattle.std.specs.Option.{option_or}
use Rattle.std.specs.Str.{bytes_eq}
use Rattle.serde_json.specs.Data.{Data, null, boolean, number, string, array, object, Items, no_items, item, Members, no_members, member}
use Rattle.serde_json.specs.Find.{as_null, as_str, as_object, get}
use Rattle.ccr_pipeline.specs.declared.schema.Kind.{Kind}
use Rattle.ccr_pipeline.specs.declared.schema.Kind.TheVariants as kind
use Rattle.ccr_pipeline.specs.declared.schema.Schema.{Schema}
use Rattle.ccr_pipeline.specs.declared.schema.Schema.TheVariants as schema
use Rattle.ccr_pipeline.specs.Faults.{Path}
use Rattle.ccr_pipeline.specs.JobData.{JobData, job_data}
use Rattle.ccr_pipeline.specs.Keys.{or_else, path_below, path_at}
use Rattle.ccr_pipeline.specs.Names.{text_at}
use Rattle.ccr_pipeline.specs.Tree as tree
use Rattle.ccr_pipeline.specs.Tree.{Text, Tree, Trees, no_trees}
use Rattle.ccr_findings.specs.declared.finding.Kind.TheVariants.{Unused, Misspelt, Misplaced, Unknown, Never, Empty}
use Rattle.ccr_findings.specs.declared.objects.Aim.{Aim}
use Rattle.ccr_findings.specs.declared.objects.Aim.TheVariants as aim
use Rattle.ccr_findings.specs.declared.stand.Keys.{Keys}
use Rattle.ccr_findings.specs.declared.stand.Keys.TheVariants as keys
use Rattle.ccr_findings.specs.Findings.{FindingData, finding}
use Rattle.ccr_findings.specs.Known.{name_of, remedy_of, meant_key, owner_of, is_passed_over}
use Rattle.ccr_findings.specs.Stands.{keys_of, kind_at, kind_of_items}

-- ---- keys without effect
-- the line of a key that Concourse knows, with what to do in its place
abbrev pub unused_line : Path → Text → Text
unused_line p remedy = codes "unused " ++ (p ++ (codes ": " ++ remedy))

-- the finding of a key that no key looks like: it belongs to another object, or isn't known
abbrev pub stray_key : Path → Text → FindingData
stray_key p key = or_else (owner_of key) (finding Unknown (codes "unknown " ++ p))
    (λ s. finding Misplaced (codes "misplaced " ++ (p ++ (codes ": belongs to " ++ name_of s))))

-- that of a key that Concourse doesn't know in the object
abbrev pub strange_key : Schema → Path → Text → FindingData
strange_key s p key = or_else (meant_key s key) (stray_key p key)
    (λ known. finding Misspelt (codes "misspelt " ++ (p ++ (codes ": " ++ (known ++ codes "?")))))

-- THE FINDING OF A KEY WITHOUT EFFECT in an object of the schema
abbrev pub key_finding : Schema → Path → Text → Data → FindingData
key_finding s p key d = or_else (remedy_of s key d) (strange_key s p key) (λ remedy. finding Unused (unused_line p remedy))

-- the finding of a key of the object at p, unless it has an effect or null stands there
abbrev pub key_at : Schema → Path → Text → Data → List FindingData
key_at s p k d = if is_some (as_null d) || is_passed_over s k then [] else key_finding s (path_below p k) k d ∷ []

-- the findings of an object's members
abbrev pub key_findings : Schema → Path → Members → List FindingData
key_findings s p no_members = []
key_findings s p (member k d ms) = key_at s p k d ++ key_findings s p ms

-- a key of a get stands among what a resource's program is given
abbrev pub is_strayed : Text → Data → Bool
is_strayed k d = not (is_some (as_null d)) && (bytes_eq k (codes "passed") || bytes_eq k (codes "trigger"))

-- the finding of one
abbrev pub strayed_key : Path → FindingData
strayed_key p = finding Misplaced (codes "misplaced " ++ (p ++ codes ": belongs to get"))

-- that of a key of the object at p
abbrev pub strayed_at : Path → Text → Data → List FindingData
strayed_at p k d = if is_strayed k d then strayed_key (path_below p k) ∷ [] else []

-- the findings of such keys
abbrev pub params_findings : Path → Members → List FindingData
params_findings p no_members = []
params_findings p (member k d ms) = strayed_at p k d ++ params_findings p ms

-- those of the object at a key of a get or put
abbrev pub params_at : Path → Text → Data → List FindingData
params_at p k d =
    or_else (option_and_then as_object (get k d)) [] (params_findings (path_below p k))

-- steps of the schema give a resource's programs something
abbrev pub gives_params : Schema → Bool
gives_params schema.Get = true
gives_params schema.Put = true
gives_params s = false

-- those among what an object of the schema gives them
abbrev pub params_of : Schema → Path → Data → List FindingData
params_of s p d =
    if gives_params s then params_at p (codes "params") d ++ params_at p (codes "get_params") d else []

-- the findings of an object's own keys
abbrev pub own_keys : Schema → Path → Data → List FindingData
own_keys s p d = or_else (as_object d) [] (λ ms. key_findings s p ms ++ params_of s p d)

-- ---- gates that hold nothing
abbrev mutual
  -- a step, or one in it, gets or puts the resource
  pub moves : Text → Tree → Bool
  moves r (tree.get g) = bytes_eq g.resource r
  moves r (tree.put p) = bytes_eq p.resource r
  moves r (tree.task t) = false
  moves r (tree.in_order ts) = moves_in r ts
  moves r (tree.in_parallel ts fast) = moves_in r ts
  moves r (tree.tried t) = moves r t
  moves r (tree.attempts n t) = moves r t
  moves r (tree.hook w t h) = moves r t || moves r h

  -- one of the steps does
  pub moves_in : Text → Trees → Bool
  moves_in r no_trees = false
  moves_in r (tree.tree t ts) = moves r t || moves_in r ts

-- the job of this name never gets or puts the resource
abbrev pub is_never : List JobData → Text → Text → Bool
is_never [] name r = false
is_never (j ∷ js) name r = if bytes_eq j.name name then not (moves r j.plan) else is_never js name r

-- the finding of such a job in passed
abbrev pub never_at : List JobData → Text → Path → Text → List FindingData
never_at js r p name = if is_never js name r then
    finding Never (codes "never " ++ (p ++ (codes ": " ++ (name ++ (codes " neither gets nor puts " ++ r))))) ∷ [] else []

-- those of a passed, from position i on
abbrev pub never_in : List JobData → Text → Path → ℕ → Items → List FindingData
never_in js r p i no_items = []
never_in js r p i (item d ds) = or_else (as_str d) [] (never_at js r (path_at p i)) ++ never_in js r p (i + 1) ds

-- the finding of a passed that names no job
abbrev pub empty_finding : Path → FindingData
empty_finding p = finding Empty (codes "empty " ++ (p ++ codes ": no gate"))

-- it is found of a list without members
abbrev pub empty_at : Path → Items → List FindingData
empty_at p no_items = empty_finding p ∷ []
empty_at p (item d ds) = []

-- the jobs that stand there: null names none
abbrev pub passed_list : Data → Option Items
passed_list null = Some no_items
passed_list (boolean b) = None
passed_list (number n) = None
passed_list (string s) = None
passed_list (array ds) = Some ds
passed_list (object ms) = None

-- the resource of a get: the one that it says, or that of its name
abbrev pub resource_of : Data → Option Text
resource_of d = option_or (text_at (codes "resource") d) (text_at (codes "get") d)

-- the findings of a passed that says these jobs
abbrev pub passed_findings : List JobData → Text → Path → Items → List FindingData
passed_findings js r p ds = empty_at p ds ++ never_in js r p 0 ds

-- those of a get
abbrev pub own_passed : List JobData → Path → Data → List FindingData
own_passed js p d =
    or_else (resource_of d) [] (λ r. or_else (option_and_then passed_list (get (codes "passed") d)) []
    (passed_findings js r (path_below p (codes "passed"))))

-- ---- the search
-- what is searched for: keys without effect, or gates of gets, by these jobs
pub data AimData : Type 0 where
  for_keys : AimData
  for_gates : List JobData → AimData

-- what is searched for, without where it lies in memory
abbrev pub aim_data : Aim → AimData
aim_data aim.Keys = for_keys
aim_data (aim.Gates jobs) = for_gates (map job_data jobs.now)

-- the schema is that of a get
abbrev pub is_get : Schema → Bool
is_get schema.Get = true
is_get s = false

-- what is found in an object of the schema itself
abbrev pub found_by : AimData → Schema → Path → Data → List FindingData
found_by for_keys s p d = own_keys s p d
found_by (for_gates js) s p d = if is_get s then own_passed js p d else []

-- what is found in an object itself, by its keys
abbrev pub own_findings : AimData → Keys → Path → Data → List FindingData
own_findings x (keys.Of s) p d = found_by x s p d
own_findings x keys.Fields p d = []
own_findings x keys.Unknown p d = []

abbrev mutual
  -- what is found in a value at a path of which this kind is wanted, and in what it holds
  pub found_in : AimData → Kind → Path → Data → List FindingData
  found_in x k p null = []
  found_in x k p (boolean b) = []
  found_in x k p (number n) = []
  found_in x k p (string s) = []
  found_in x k p (array ds) = or_else (kind_of_items k) [] (λ w. found_in_items x w p 0 ds)
  found_in x k p (object ms) =
      own_findings x (keys_of k (object ms)) p (object ms) ++ found_in_members x (keys_of k (object ms)) p ms

  -- in the members of a list, from position i on
  pub found_in_items : AimData → Kind → Path → ℕ → Items → List FindingData
  found_in_items x k p i no_items = []
  found_in_items x k p i (item d ds) = found_in x k (path_at p i) d ++ found_in_items x k p (i + 1) ds

  -- in the members of an object that has these keys
  pub found_in_members : AimData → Keys → Path → Members → List FindingData
  found_in_members x ks p no_members = []
  found_in_members x ks p (member key d ms) =
      or_else (kind_at ks key) [] (λ w. found_in x w (path_below p key) d) ++ found_in_members x ks p ms

-- WHAT IS FOUND IN A PIPELINE'S VALUE
abbrev pub found_on : AimData → Data → List FindingData
found_on x d = found_in x (kind.Object schema.Pipeline) [] d
