use Rattle.listing.specs.Put.{Put}
use Rattle.outline_spec.specs.Outline.{indent}
use Rattle.outline_line.proofs.put_indent.Given as goal

abbrev pub invariant-loop : goal.invariant-loop
invariant-loop l = Put l.initial.out l.at (indent l.counter) l.out l.next
