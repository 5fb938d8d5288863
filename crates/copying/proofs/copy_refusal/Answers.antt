use mathlib.Core.Path.{refl}
use native.Mathlib.Omega.{arith}
use lib.ListN.{length}
use Rattle.plan.proofs.Laws.Answered.{err_stops, ok_goes_on, passes}
use Rattle.plan.proofs.Laws.Steps.{counted-read}
use Rattle.plan.specs.declared.forms.Form.TheVariants.{Wide}
use Rattle.planfile_spec.proofs.Laws.Examined.{records-lower, records-flat}
use Rattle.copying.specs.Steps.{lettered_steps}
use Rattle.copying.proofs.copy_refusal.Goals as goal

pub returns-in_err-asked : goal.returns-in_err-asked
unfolding lettered_steps
returns-in_err-asked c = err_stops _ _ _ _ (c.in_err-asked.ensures.numbered (omega arith)) c.from_residual.ensures.1 _

pub returns-in_err-asked-2 : goal.returns-in_err-asked-2
unfolding lettered_steps
returns-in_err-asked-2 c =
    ok_goes_on _ _ (c.in_ok-asked.ensures.numbered (omega arith)) _ _ _
    (err_stops _ _ _ _ (rw c.counted.ensures at c.in_err-asked-2.ensures.numbered (omega arith)) c.from_residual-in_err-asked-2.ensures.1 _)

pub returns-in_err-asked-3 : goal.returns-in_err-asked-3
unfolding lettered_steps
returns-in_err-asked-3 c =
    ok_goes_on _ _ (c.in_ok-asked.ensures.numbered (omega arith)) _ _ _
    (ok_goes_on _ _ (rw c.counted.ensures at c.in_ok-asked-2.ensures.numbered (omega arith)) _ _ _
    (err_stops _ _ _ _ (rw c.letters_printable.ensures at c.in_err-asked-3.ensures.numbered (omega arith)) c.from_residual-in_err-asked-3.ensures.1 _))

pub records_refusal-requires : goal.records_refusal-requires
records_refusal-requires c = (counted-read c.args.t.now.columns.count _ refl (passes _ _ (rw c.counted.ensures at c.in_ok-asked-2.ensures.numbered (omega arith)))).1

pub returns-in_err-records_refusal : goal.returns-in_err-records_refusal
unfolding lettered_steps
returns-in_err-records_refusal c =
    ok_goes_on _ _ (c.in_ok-asked.ensures.numbered (omega arith)) _ _ _
    (ok_goes_on _ _ (rw c.counted.ensures at c.in_ok-asked-2.ensures.numbered (omega arith)) _ _ _
    (ok_goes_on _ _ (rw c.letters_printable.ensures at c.in_ok-asked-3.ensures.numbered (omega arith)) _ _ _
    (err_stops _ _ _ _ c.in_err-records_refusal.ensures c.from_residual-in_err-records_refusal.ensures.1 _)))

pub tree_refusal-requires-clause-lower : goal.tree_refusal-requires-clause-lower
tree_refusal-requires-clause-lower c =
    let g = c.args.t.now in
    let t = g.columns in
    let k = counted-read t.count _ refl (passes _ _ (rw c.counted.ensures at c.in_ok-asked-2.ensures.numbered (omega arith))) in
    records-lower Wide (length c.args.letters.now) t.count t.parent t.kind t.width t.depth g.label_length g.label_start _ refl (passes _ _ c.in_ok-records_refusal.ensures) k.0 k.1

pub tree_refusal-requires-clause-flat : goal.tree_refusal-requires-clause-flat
tree_refusal-requires-clause-flat c =
    let g = c.args.t.now in
    let t = g.columns in
    records-flat Wide (length c.args.letters.now) t.count t.parent t.kind t.width t.depth g.label_length g.label_start _ refl (passes _ _ c.in_ok-records_refusal.ensures)

pub returns-in_err-tree_refusal : goal.returns-in_err-tree_refusal
unfolding lettered_steps
returns-in_err-tree_refusal c =
    ok_goes_on _ _ (c.in_ok-asked.ensures.numbered (omega arith)) _ _ _
    (ok_goes_on _ _ (rw c.counted.ensures at c.in_ok-asked-2.ensures.numbered (omega arith)) _ _ _
    (ok_goes_on _ _ (rw c.letters_printable.ensures at c.in_ok-asked-3.ensures.numbered (omega arith)) _ _ _
    (ok_goes_on _ _ c.in_ok-records_refusal.ensures _ _ _ (err_stops _ _ _ _ (c.in_err-tree_refusal.ensures _ _) c.from_residual-in_err-tree_refusal.ensures.1 _))))

pub returns : goal.returns
unfolding lettered_steps
returns c =
    ok_goes_on _ _ (c.in_ok-asked.ensures.numbered (omega arith)) _ _ _
    (ok_goes_on _ _ (rw c.counted.ensures at c.in_ok-asked-2.ensures.numbered (omega arith)) _ _ _
    (ok_goes_on _ _ (rw c.letters_printable.ensures at c.in_ok-asked-3.ensures.numbered (omega arith)) _ _ _
    (ok_goes_on _ _ c.in_ok-records_refusal.ensures _ _ _ (ok_goes_on _ _ (c.in_ok-tree_refusal.ensures _ _) _ _ _ c.allowance_refusal.ensures))))
