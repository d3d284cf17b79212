-- What a map of pins holds, without where it lies in memory.
use Rattle.std.specs.Prelude.{List, map, string_bytes, String}
use Rattle.std.specs.declared.alloc.Global.{Global}
use Rattle.ccr_history.specs.Text.{Text}
use Rattle.ccr_history.specs.TextMap.{TextMap}

-- the resources with their pins, in the order of the map
abbrev pub pins_of : List (String Global × TextMap) → List (Text × TextMap)
pins_of es = map (λ e. (string_bytes e.0, e.1)) es
