use Prim.Native.Nat.{◌+◌, ◌*◌, ◌≤◌}
use Rattle.listing.specs.Put.{Put}
use Rattle.why_lines.specs.Steps.{link_size, steps_text}
use Rattle.why_lines.proofs.put_steps.Given as goal

abbrev pub invariant-loop-j : goal.invariant-loop-j
invariant-loop-j l = record {
  place : l.next ≤ l.at + link_size * l.j;
  put : Put l.initial.out l.at (steps_text l.chain.cells l.chain.rules l.xs l.j) l.out l.next;
}
