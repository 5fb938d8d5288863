use mathlib.Core.Path.{◌≡◌}
use Prim.Native.Nat.{◌+◌, ◌-◌, ◌≤◌}
use lib.ListN.{length, drop}
use Rattle.drawing_spec.specs.Words.{lines}
use Rattle.drawing_spec.specs.Said.{said_lines}
use Rattle.drawing.specs.Steps.{sketch, Held}
use Rattle.drawing.proofs.read_lines.Given as goal

abbrev pub invariant-loop-at : goal.invariant-loop-at
invariant-loop-at l = record {
  counted : l.k ≤ l.at + 1;
  same : said_lines l.n l.k (sketch l.given l.places) (lines (drop l.at l.text)) ≡ said_lines l.n 1 (sketch l.initial.given l.initial.places) (lines l.text);
  held : Held l.places;
}

abbrev pub decreases-loop-at : goal.decreases-loop-at
decreases-loop-at l = length l.text - l.at
