use native.Mathlib.Omega.{arith}
use mathlib.Core.Path.{ap}
use Rattle.plan.proofs.Laws.Answered.{err_stops, ok_goes_on, passes}
use Rattle.planfile_spec.specs.FileSteps.{header_refusal}
use Rattle.planfile_spec.specs.declared.Trailer.{Trailer}
use Rattle.planfile_spec.proofs.Laws.Examined.{formed_read}
use Rattle.planfile_header.proofs.header_refusal.Goals as goal

pub returns-in_err-formed_refusal : goal.returns-in_err-formed_refusal
unfolding header_refusal
returns-in_err-formed_refusal c = err_stops _ _ _ _ c.in_err-formed_refusal.ensures c.from_residual.ensures.1 _

pub trailer-t-requires : goal.trailer-t-requires
trailer-t-requires c = omega (arith, (formed_read c.args.file.now (passes _ _ c.in_ok-formed_refusal.ensures)).long)

pub letters_printable-requires : goal.letters_printable-requires
letters_printable-requires c = omega (arith, (formed_read c.args.file.now (passes _ _ c.in_ok-formed_refusal.ensures)).full.exact, ap (λ (t : Trailer). t.begin) c.trailer-t.ensures)

pub returns : goal.returns
unfolding header_refusal
returns c = ok_goes_on _ _ c.in_ok-formed_refusal.ensures _ _ _ (rw (c.letters_printable.ensures, c.trailer-t.ensures) at c.asked.ensures.numbered (omega arith))
