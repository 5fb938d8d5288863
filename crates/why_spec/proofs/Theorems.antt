-- WHY A SHEET IS AS WIDE AS IT IS, and each part of it: what is proved of links, chains and reasons, for every allowance and every table that has a cell (question 4) and whose
-- parents have lower numbers (question 6). Assumes nothing.
use Rattle.std.specs.Prelude.{ℕ, ◌≤◌, ◌<◌, List, map, ◌≡◌, length, ℤ, ◌+ℤ◌, ◌-ℤ◌, ◌≤ℤ◌}
use Rattle.plan.specs.Plan.{Table, Is, Sound}
use Rattle.rules.specs.Placement.{Placement, width, left_extent, right_extent}
use Rattle.rules.specs.Rules.{S1, Keeps}
use Rattle.contours.specs.Sheet.{sheet}
use Rattle.why_spec.specs.Measures.{Measure, extent, across, leftward, rightward, between, Demanded}
use Rattle.why_spec.specs.Links.{Link, Justified, Chain, adds_up, Reason, Certifies, Taut}
use Rattle.why_spec.specs.Search.{because, reason, why}
use Rattle.why_spec.specs.Worked.{computed, reasons}
use Rattle.why_spec.proofs.Laws.Theorems as laws
use Rattle.why_spec.proofs.Laws.Measures as measures
use Rattle.why_spec.proofs.Laws.Worked.{computes}

-- 1. The four measures are document 01's: the width, the extents of a subtree, the distance of two cells.
pub width_is : (t : Table) (p : Placement) → extent (across t) p ≡ width t p
width_is = measures.width_is

pub left_is : (t : Table) (p : Placement) (c : ℕ) → extent (leftward t c) p ≡ left_extent t p c
left_is = measures.left_is

pub right_is : (t : Table) (p : Placement) (c : ℕ) → extent (rightward t c) p ≡ right_extent t p c
right_is = measures.right_is

pub between_is : (p : Placement) (u v : ℕ) → extent (between u v) p ≡ p.x v -ℤ p.x u
between_is = measures.between_is

module _ (t : Table) (some_cell : 1 ≤ length t) (sound : Sound t) (al : ℕ) where
  -- 2. A link holds of every placement that keeps S1 to S5, of any size.
  pub link_true : (p : Placement) → Keeps t p al → (l : Link) → Justified t al l → (p.x l.from +ℤ l.apart) ≤ℤ p.x l.to
  link_true = laws.link_true t some_cell sound al

  -- 3. The links leave out nothing: a placement that keeps S1 and of which every link holds keeps S1 to S5.
  pub links-enough : (p : Placement) → S1 t p → ((l : Link) → Justified t al l → (p.x l.from +ℤ l.apart) ≤ℤ p.x l.to) → Keeps t p al
  links-enough = laws.links-enough t some_cell sound al

  -- 4. The distances of a chain add up: whoever keeps the rules has its ends at least so far apart.
  pub chain_bounds : (p : Placement) → Keeps t p al → (c : ℕ) (ls : List Link) (e : ℕ) → Chain t al c ls e → (p.x c +ℤ adds_up ls) ≤ℤ p.x e
  chain_bounds = laws.chain_bounds t some_cell sound al

  -- 5. What certifies a measure certifies it: whoever keeps the rules measures at least as much.
  pub reason-least : (p : Placement) → Keeps t p al → (μ : Measure) (w : ℤ) (r : Reason) → Certifies t al μ w r → w ≤ℤ extent μ p
  reason-least = laws.reason-least t some_cell sound al

  -- 6. Of anyone's placement, whatever it is: a reason that is answered certifies what it measures, so whoever keeps the rules measures at least as much.
  pub why-because : (μ : Measure) (p : Placement) (r : Reason) → why t al μ p ≡ because r → Certifies t al μ (extent μ p) r × (length r.links < length t)
  why-because = laws.why-because t some_cell sound al

  -- Of all that demand 3 measures: the width, each subtree's extents, the distances of neighbouring siblings
  module _ (μ : Measure) (demanded : Demanded t μ) where
    -- 7. THE reason of our sheet certifies what it measures; it is always found.
    pub reason-found : Certifies t al μ (extent μ (sheet t al)) (reason t al μ (sheet t al))
    reason-found = laws.reason-found t some_cell sound al μ demanded

    -- 8. What certifies it is seen on our sheet: it begins at a least x, has no room, and ends farthest to the right.
    pub reason-seen : (r : Reason) → Certifies t al μ (extent μ (sheet t al)) r → Taut μ (sheet t al) r
    reason-seen = laws.reason-seen t some_cell sound al μ demanded

    -- 9. No other that certifies it has fewer links, and ours has fewer than there are cells.
    pub reason-fewest : (r : Reason) → Certifies t al μ (extent μ (sheet t al)) r → length (reason t al μ (sheet t al)).links ≤ length r.links
    reason-fewest = laws.reason-fewest t some_cell sound al μ demanded

    pub reason_short : length (reason t al μ (sheet t al)).links < length t
    reason_short = laws.reason_short t some_cell sound al μ demanded

    -- 10. Of a placement that keeps the rules: there is a reason where it measures no more than our sheet, and only there.
    pub why-found : (p : Placement) → Keeps t p al → extent μ p ≤ℤ extent μ (sheet t al) → why t al μ p ≡ because (reason t al μ p)
    why-found = laws.why-found t some_cell sound al μ demanded

    pub certified_least : (p : Placement) → Keeps t p al → (r : Reason) → Certifies t al μ (extent μ p) r → extent μ p ≡ extent μ (sheet t al)
    certified_least = laws.certified_least t some_cell sound al μ demanded

    -- 11. A reason is a matter of the cells' x alone: placements that agree on them have the same.
    pub reason-same : (p q : Placement) → ((c : ℕ) → Is t c → p.x c ≡ q.x c) → reason t al μ p ≡ reason t al μ q
    reason-same = laws.reason-same t some_cell sound al μ demanded

    pub why-same : (p q : Placement) → ((c : ℕ) → Is t c → p.x c ≡ q.x c) → why t al μ p ≡ why t al μ q
    why-same = laws.why-same t some_cell sound al μ demanded

-- 12. The worked reasons come out as an examiner would write them.
pub worked : map computed reasons ≡ reasons
worked = computes
