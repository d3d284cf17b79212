-- A file in memory whose bytes are kept once.
use Rattle.std.specs.Prelude.{ℕ, List}
use Rattle.ccr_look.specs.declared.scratch.Scratch.{Scratch}

-- the bytes that a read of it returns
abbrev pub scratch_bytes : Scratch → List ℕ
scratch_bytes file = file.bytes.items
