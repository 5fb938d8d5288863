-- The numbers that the search reads are those of the table and the placement. Assumes nothing.
use Rattle.std.specs.Prelude.{◌≡◌, refl, ℕ, ◌+◌, ◌≤◌, ◌<◌, max, min, length, eqb, ◌≤ℤ◌}
use Rattle.std.proofs.Common.{arith}
use Rattle.std.proofs.Math.Decide.{ℕ_discrete, dec_le}
use Rattle.whole.proofs.Laws.Whole.{whole}
use Rattle.whole.specs.Says.{Says}
use Rattle.whole.proofs.Laws.Says.{that_is, says_eq, same_test}
use Rattle.plan.specs.Plan.{Table, Is, Sound, cells}
use Rattle.plan.proofs.Laws.Plan.{cells-read, cells_show}
use Rattle.rules.specs.Placement.{Placement, most, least, right}
use Rattle.rules.specs.Rules.{S1}
use Rattle.rules.proofs.Laws.Extremes.{most-all, most-one, least-all, least-one}
use Rattle.looking_sights.specs.Sights.{Sights}
use Rattle.looking_sights.specs.Sees.{Lifts, Sees, Looked}
use Rattle.looking.proofs.Laws.Meaning.{right_lift}
use Rattle.looking_sights.specs.declared.View.{View}
use Rattle.why_spec.specs.Measures.{across, far}
use Rattle.why_spec.specs.Search.{leftmost, rightmost}
use Rattle.why_spec.proofs.Laws.Moved.{says_leftmost, says_rightmost}
use Rattle.why_search.specs.Extremes.{From, Extremes}
use Rattle.why_ties.proofs.Laws.Ties.{ties_is, rule_is}
use Rattle.why_search.specs.Found.{Stands}

-- ---- the loop
module _ (s : Sights) (n : ℕ) where
  pub extremes_start : (v : View) → v ≡ s 0 → 1 ≤ n → Extremes s n 1 v.x v.right
  extremes_start v e l = rw e record {
    lows = λ i k. let z : i ≡ 0 = omega arith in rw z (omega arith);
    highs = λ i k. let z : i ≡ 0 = omega arith in rw z (omega arith);
    low_from = record { cell = 0; is = l; so = refl };
    high_from = record { cell = 0; is = l; so = refl };
  }

  turns : {c low high low' high' : ℕ} → Extremes s n c low high → c < n → high' ≡ max high (s c).right → low' ≡ min low (s c).x → Extremes s n (c + 1) low' high'
  turns {c} {low} {high} {low'} {high'} h l e f = record {
    lows = λ i k. down i k (ℕ_discrete i c);
    highs = λ i k. up i k (ℕ_discrete i c);
    low_from = bottom (dec_le low (s c).x);
    high_from = top (dec_le (s c).right high);
  }
    where
      up : (i : ℕ) → i < c + 1 → Dec (i ≡ c) → (s i).right ≤ high'
      up i k (yes q) = rw q (omega arith)
      up i k (no q) = omega (arith, h.highs i (omega arith))

      down : (i : ℕ) → i < c + 1 → Dec (i ≡ c) → low' ≤ (s i).x
      down i k (yes q) = rw q (omega arith)
      down i k (no q) = omega (arith, h.lows i (omega arith))

      top : Dec ((s c).right ≤ high) → From (λ i. (s i).right) n high'
      top (yes q) = let r = h.high_from in record { cell = r.cell; is = r.is; so = omega (arith, r.so) }
      top (no q) = record { cell = c; is = l; so = omega arith }

      bottom : Dec (low ≤ (s c).x) → From (λ i. (s i).x) n low'
      bottom (yes q) = let r = h.low_from in record { cell = r.cell; is = r.is; so = omega (arith, r.so) }
      bottom (no q) = record { cell = c; is = l; so = omega arith }

  pub extremes_turn : {c low high low' high' : ℕ} → Extremes s n c low high → c < n → (v : View) → v ≡ s c → high' ≡ max high v.right → low' ≡ min low v.x → Extremes s n (c + 1) low' high'
  extremes_turn h l v w e f = turns h l (rw w at e) (rw w at f)

  pub extremes_end : {c low high : ℕ} → Extremes s n c low high → n ≤ c → Extremes s n n low high
  extremes_end {c} h l = record { lows = λ i k. h.lows i (omega arith); highs = λ i k. h.highs i (omega arith); low_from = h.low_from; high_from = h.high_from }

-- ---- what they are
module _ (t : Table) (al : ℕ) (p : Placement) (s : Sights) (sound : Sound t) (g : Sees t p s) (low high : ℕ) (h : Extremes s (length t) (length t) low high) where
  low_lift : Lifts (least p.x (p.x 0) (cells t)) low
  low_lift =
      let r = h.low_from in
      let u = r.cell in
      let i = r.is in
      let zero_is : Is t 0 = omega arith in
      let up : p.x u ≤ℤ least p.x (p.x 0) (cells t) =
      least-one p.x (p.x 0) (cells t) (λ z. p.x u ≤ℤ z) (omega (whole, g.xs 0 zero_is, g.xs u i, r.so, h.lows 0 zero_is))
      (λ a m. let j = cells-read t a m in omega (whole, g.xs a j, g.xs u i, r.so, h.lows a j)) in
      let down = least-all p.x (p.x 0) (cells t) u (cells_show t u i) in
      omega (whole, g.xs u i, r.so)

  high_lift : Lifts (most (right t p) (right t p 0) (cells t)) high
  high_lift =
      let r = h.high_from in
      let u = r.cell in
      let i = r.is in
      let zero_is : Is t 0 = omega arith in
      let down : most (right t p) (right t p 0) (cells t) ≤ℤ right t p u =
      most-one (right t p) (right t p 0) (cells t) (λ z. z ≤ℤ right t p u) (omega (whole, right_lift t p s sound g 0 zero_is, right_lift t p s sound g u i, r.so, h.highs 0 zero_is))
      (λ a m. let j = cells-read t a m in omega (whole, right_lift t p s sound g a j, right_lift t p s sound g u i, r.so, h.highs a j)) in
      let up = most-all (right t p) (right t p 0) (cells t) u (cells_show t u i) in
      omega (whole, right_lift t p s sound g u i, r.so)

  says_left : (c : ℕ) → Is t c → Says (leftmost (across t) p c) (p.x c ≡ least p.x (p.x 0) (cells t))
  unfolding across
  says_left c i = that_is (says_leftmost (across t) p c) (λ h. h.1) (λ e. (cells_show t c i, e))

  says_right : (c : ℕ) → Is t c → Says (rightmost (across t) p c) (right t p c ≡ most (right t p) (right t p 0) (cells t))
  unfolding across far right
  says_right c i = that_is (says_rightmost (across t) p c) (λ h. h.1) (λ e. (cells_show t c i, e))

  left_is : (c : ℕ) → Is t c → eqb (s c).x low ≡ leftmost (across t) p c
  left_is c i = same_test (that_is (says_eq (s c).x low) (λ e. omega (whole, g.xs c i, low_lift)) (λ e. omega (whole, g.xs c i, low_lift))) (says_left c i)

  right_is : (c : ℕ) → Is t c → eqb (s c).right high ≡ rightmost (across t) p c
  right_is c i = same_test (that_is (says_eq (s c).right high) (λ e. omega (whole, right_lift t p s sound g c i, high_lift)) (λ e. omega (whole, right_lift t p s sound g c i, high_lift))) (says_right c i)

  sees_stands : S1 t p → Stands t al p s (length t) low high
  sees_stands s1 = record { size = refl; ties = λ a b i j. ties_is t p s sound s1 g al a b i j; names = λ a b i j. rule_is t p s sound s1 g al a b i j; lefts = left_is; tops = right_is }

-- the same numbers of the cells
pub looked_stands : (t : Table) (al : ℕ) (p : Placement) (s : Sights) (n low high : ℕ) → Sound t → S1 t p → Looked t p s → length t ≡ n → Extremes s n n low high → Stands t al p s n low high
looked_stands t al p s n low high sound s1 l e h =
    rw (← e) (over (sees_stands t al p l.seen sound l.sees low high (under (rw (← e) at h)) s1))
  where
    under : Extremes s (length t) (length t) low high → Extremes l.seen (length t) (length t) low high
    under h =
        let u = h.low_from in
        let v = h.high_from in
        record {
          lows = λ i k. rw (← l.agree.same i k) (h.lows i k);
          highs = λ i k. rw (← l.agree.same i k) (h.highs i k);
          low_from = record { cell = u.cell; is = u.is; so = rw (← l.agree.same u.cell u.is) u.so };
          high_from = record { cell = v.cell; is = v.is; so = rw (← l.agree.same v.cell v.is) v.so };
        }

    over : Stands t al p l.seen (length t) low high → Stands t al p s (length t) low high
    over g =
        record {
          size = refl;
          ties = λ a b i j. rw (l.agree.same a i, l.agree.same b j) (g.ties a b i j);
          names = λ a b i j. rw (l.agree.same a i, l.agree.same b j) (g.names a b i j);
          lefts = λ c i. rw (l.agree.same c i) (g.lefts c i);
          tops = λ c i. rw (l.agree.same c i) (g.tops c i);
        }
