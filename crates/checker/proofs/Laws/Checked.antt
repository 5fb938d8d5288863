-- What Check's answer says. Assumes nothing.
use Rattle.std.specs.Prelude.{◌≡◌, refl, List, ℕ, ◌+◌, ◌-◌, ◌≤◌, length, ℤ, pos}
use Rattle.std.proofs.Common.{sym, ◌∙◌, ap, arith, leb→le}
use Rattle.whole.specs.Whole.{plus}
use Rattle.whole.proofs.Laws.Whole.{whole, narrow, sum}
use Rattle.plan.specs.Limits.{most_allowance, most_cells}
use Rattle.plan.proofs.Laws.Paths.{within-self}
use Rattle.plan.specs.Plan as plan
use Rattle.plan.specs.Plan.{Table, Is, Sound, box_width}
use Rattle.plan.specs.Fit.{Fit}
use Rattle.plan.specs.Near.{Near}
use Rattle.plan.proofs.Laws.Near.{near-accepted}
use Rattle.plan.specs.Questions.{refusal, check, check_given}
use Rattle.plan.proofs.Laws.Questions.{asked_yes, both-none}
use Rattle.plan.proofs.Laws.Calls.{check-refusal}
use Rattle.plan.proofs.Laws.Fit.{lent_fit}
use Rattle.plan.specs.declared.Refusal.{Refusal}
use Rattle.plan.specs.declared.Breach.{Breach}
use Rattle.rules.specs.Placement.{Placement, right, bottom, width, rows, placed}
use Rattle.rules.specs.Search.{kept, broken}
use Rattle.rules.specs.Verdict.{verdict, answer}
use Rattle.rules.proofs.Laws.Verdict.{kept_keeps, fine-answer}
use Rattle.rules.proofs.Laws.Extents.{width_le, width_ge, rows-plan}
use Rattle.checker.specs.declared.Verdict.TheVariants.{Kept, Broken}
use Rattle.looking_sights.specs.Sights.{Sights}
use Rattle.checker.specs.Checked.{answered}
use Rattle.looking_sights.specs.Sees.{Lifts, Looked}
use Rattle.checker.specs.Spread.{Bounds, Spread}
use Rattle.looking.proofs.Laws.Meaning.{right_lift, bottom_lift}

-- what holds where no question refuses
pub record Accepted (t : Table) (al : ℕ) (ps : List ℤ) : Type 0 where
  pub fit : Fit t
  pub near : Near ps (length t)
  pub small : al ≤ most_allowance

pub accepted : (t : Table) (al : ℕ) (ps : List ℤ) → (refusal check (check_given t al ps)).number ≡ 0 → Accepted t al ps
accepted t al ps e =
    let (lent, r) = both-none _ _ (ap (λ (x : Refusal). x.number) (sym (check-refusal t al ps)) ∙ e) in
    let (few, near) = both-none _ _ r in
    let h = lent_fit t (length ps) lent in
    record { fit = h.fit; near = near-accepted ps (length t) h.room near; small = leb→le al most_allowance (asked_yes 13 _ 0 few) }

module _ (t : Table) (p : Placement) (s : Sights) (sound : Sound t) (some : 1 ≤ length t) (l : Looked t p s) where
  x-seen : (c : ℕ) → Is t c → Lifts (p.x c) (s c).x
  x-seen c i = rw (l.agree.same c i) (l.sees.xs c i)

  right-seen : (c : ℕ) → Is t c → Lifts (right t p c) (s c).right
  right-seen c i = rw (l.agree.same c i) (right_lift t p l.seen sound l.sees c i)

  pub width_is : (w : ℕ) → Spread s (length t) w → width t p ≡ pos w
  width_is w h =
      let up = width_le t p w some (λ a b i j. omega (whole, right-seen a i, x-seen b j, sum (p.x b) (pos w), h.all a b i j)) in
      let down = width_ge t p w h.a h.b h.a_is h.b_is
      (omega (whole, right-seen h.a h.a_is, x-seen h.b h.b_is, sum (p.x h.b) (pos w), h.so)) in
      omega whole

  pub y-bottom : (s 0).y ≤ (s 0).bottom
  y-bottom = rw (l.agree.same 0 some) (omega (arith, l.sees.bases 0 some, l.sees.bottoms.all 0 0 some (within-self t sound 0)))

  y-seen : Lifts (p.y 0) (s 0).y
  y-seen = rw (l.agree.same 0 some) (l.sees.ys 0 some)

  bottom-seen : Lifts (bottom t p 0) (s 0).bottom
  bottom-seen = rw (l.agree.same 0 some) (bottom_lift t p l.seen sound l.sees 0 some)

  pub rows_is : p.y 0 ≡ pos 0 → rows t p ≡ pos ((s 0).bottom - (s 0).y + 1)
  unfolding rows
  rows_is e = omega (whole, e, y-seen, bottom-seen, sum (bottom t p 0) (pos 1), y-bottom)

  pub bounds : length t ≤ most_cells → Bounds s (length t)
  bounds few = record { some = some; few = few; each = λ c i. rw (l.agree.same c i) (omega (arith, l.sees.rights c i)) }

  module _ (al : ℕ) where
    pub answered-kept : (w : ℕ) → verdict t p al ≡ kept → Spread s (length t) w → Kept (record { width = w; rows = (s 0).bottom - (s 0).y + 1 }) ≡ answered (answer t p al)
    unfolding answered
    answered-kept w e h =
        rw (fine-answer t p al e)
        (rw (width_is w h, rows_is (kept_keeps t p al some e).s1.root_y) refl)

pub answered-broken : (t : Table) (p : Placement) (al : ℕ) (b : Breach) → verdict t p al ≡ broken b.rule b.a b.b → Broken b ≡ answered (answer t p al)
unfolding answered answer
answered-broken t p al b e = rw (e, answer)

-- ---- width and rows of a kept sheet are not negative, and small
module _ (t : Table) (al : ℕ) (ps : List ℤ) (h : Accepted t al ps) where
  pub width-natural : width t (placed ps) ≡ pos (plus (width t (placed ps)))
  unfolding right
  width-natural =
      let down = width_ge t (placed ps) 0 0 0 h.fit.some_cell h.fit.some_cell
      (omega (whole, sum ((placed ps).x 0) (pos 0), sum ((placed ps).x 0) (pos (box_width t 0)))) in
      omega (whole, narrow (width t (placed ps)))

  pub rows-natural : verdict t (placed ps) al ≡ kept → rows t (placed ps) ≡ pos (plan.dictated_bottom t 0 + 1)
  rows-natural e = rows-plan t (placed ps) h.fit.sound (kept_keeps t (placed ps) al h.fit.some_cell e).s1 h.fit.some_cell
