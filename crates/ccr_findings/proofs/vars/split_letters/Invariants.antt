use Rattle.std.proofs.Common.{◌≡◌, ◌++◌, drop, take}
use Rattle.ccr_findings.specs.Vars.{front_letters, behind_letters}
use Rattle.ccr_findings.proofs.vars.split_letters.Given as goal

abbrev pub invariant-loop-i : goal.invariant-loop-i
invariant-loop-i l = record {
  front : take l.i l.text ++ front_letters (drop l.i l.text) ≡ front_letters l.text;
  behind : behind_letters (drop l.i l.text) ≡ behind_letters l.text;
}
