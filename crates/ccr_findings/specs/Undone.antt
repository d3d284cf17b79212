-- What to do in the place of what isn't done here.
use Rattle.std.specs.Prelude.{List, [], ◌∷◌, ◌==◌, codes, if◌then◌else◌}
use Rattle.std.specs.Str.{bytes_eq}
use Rattle.ccr_pipeline.specs.Faults.{Path}
use Rattle.ccr_pipeline.specs.Tree.{Text}

-- the last key of a path: what stands behind the last point of these bytes, or else this
abbrev pub last_key : Path → Path → Path
last_key key [] = key
last_key key (c ∷ cs) = last_key (if c == 46 then cs else key) cs

-- WHAT TO DO IN THE PLACE OF A KEY that isn't supported, as a line says it behind what stands there
unfoldable pub undone_words : Text → Text
undone_words key =
    if bytes_eq key (codes "across") then codes ": write a step for each value"
    else if bytes_eq key (codes "load_var") then codes ": have a task read the file"
    else if bytes_eq key (codes "set_pipeline") then codes ": set the pipeline from outside of a build"
    else if bytes_eq key (codes "aggregate") then codes ": write in_parallel"
    else if bytes_eq key (codes "input_mapping") then
    codes "; leave it out, and get the resource under the input's name: {\"get\": \"input\", \"resource\": \"repo\"}"
    else if bytes_eq key (codes "output_mapping") then codes "; leave it out, and call the output as the steps behind do"
    else if bytes_eq key (codes "path") then codes "; leave it out: an input or output lies under its name"
    else []
