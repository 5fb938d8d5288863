-- What the pool's questions establish, and the figures of both together. Assumes nothing.
use Rattle.std.specs.Prelude.{◌≡◌, refl, List, [], ◌∷◌, ◌++◌, ℕ, ◌+◌, ◌*◌, ◌≤◌, min, max, T, eqb, leb, length, Result, Ok, Err, IsErrAnd, Option, None, Some, unwrap_or, cond, ◌<◌}
use Rattle.std.specs.Option.{SomeIff}
use Rattle.std.proofs.Common.{sym, ◌∙◌, arith, leb→le, eqb→eq}
use Rattle.std.proofs.Math.Path.{ap}
use Rattle.std.proofs.Math.Decide.{ℕ_discrete}
use borrow.Author.Tests.{eq-eqb, ne_eqb}
use Rattle.plan.specs.Questions.{asked, or_else}
use Rattle.plan.proofs.Laws.Questions.{both-none, asked_yes}
use Rattle.plan.proofs.Laws.Kept.{asked_last}
use Rattle.plan.proofs.Laws.Steps.{and_left, and_right}
use Rattle.plan.specs.declared.Refusal.{Refusal}
use Rattle.season.specs.declared.Report.{Report}
use Rattle.season.specs.Report.{most_plans, cells_each, width_each, area_each, Figure, narrowest, report}
use Rattle.season.specs.Pool.{Small, narrower, pooled, empty, sound, sequence, number, holds, first_no, pool_refusal, adds}
use Rattle.season.proofs.Laws.Report.{length-after, summed-after, widest-after}

-- ---- question 22 passed
sound_small : (r : Report) → T (sound r) → Small r
unfolding sound
sound_small r h =
    let a = leb→le r.plans most_plans (and_left (leb r.plans most_plans) _ h) in
    let h2 = and_right (leb r.plans most_plans) _ h in
    let b = leb→le r.cells (cells_each * r.plans) (and_left (leb r.cells (cells_each * r.plans)) _ h2) in
    let h3 = and_right (leb r.cells (cells_each * r.plans)) _ h2 in
    let d = leb→le r.widths (width_each * r.plans) (and_left (leb r.widths (width_each * r.plans)) _ h3) in
    let h4 = and_right (leb r.widths (width_each * r.plans)) _ h3 in
    let e = leb→le r.areas (area_each * r.plans) (and_left (leb r.areas (area_each * r.plans)) _ h4) in
    record { few = a; cells = omega arith; widths = omega arith; areas = omega arith }

-- no plan: no least width
pub sound_empty : (r : Report) → T (sound r) → r.plans ≡ 0 → r.least ≡ 0
unfolding sound empty
sound_empty r h z =
    let h2 = and_right (leb r.plans most_plans) _ h in
    let h3 = and_right (leb r.cells (cells_each * r.plans)) _ h2 in
    let h4 = and_right (leb r.widths (width_each * r.plans)) _ h3 in
    let h5 = and_right (leb r.areas (area_each * r.plans)) _ h4 in
    let h6 : T (empty r) = rw (eq-eqb r.plans 0 z) at h5 in
    eqb→eq r.least 0 (and_left (eqb r.least 0) _ h6)

pub asked_small : (a : Report) → (asked 22 (sound a) 0).number ≡ 0 → Small a
asked_small a z = sound_small a (asked_yes 21 (sound a) 0 z)

-- ---- the questions, as the code puts them
module _ (a b : Report) where
  pub refusal_is : pool_refusal a b ≡ or_else (asked 22 (sound a) 0) (or_else (asked 22 (sound b) 0) (asked 4 (leb (a.plans + b.plans) most_plans) 0))
  unfolding pool_refusal first_no sequence number holds
  refusal_is = ap (λ (x : Refusal). or_else (asked 22 (sound a) 0) (or_else (asked 22 (sound b) 0) x)) (asked_last 3 (leb (a.plans + b.plans) most_plans) 0)

  module _ (z : (pool_refusal a b).number ≡ 0) where
    pub both_small : Small a × Small b
    both_small =
        let (p, q) = both-none (asked 22 (sound a) 0) _ (ap (λ (x : Refusal). x.number) (sym refusal_is) ∙ z) in
        (sound_small a (asked_yes 21 (sound a) 0 p), sound_small b (asked_yes 21 (sound b) 0 (both-none (asked 22 (sound b) 0) _ q).0))

-- ---- a file's answer added, as the code does it: too many plans are the answer
pub adds-none : (total answer y : Result Report Refusal) {e : Refusal} → total ≡ Err e → IsErrAnd y (λ d. d ≡ e) → y ≡ adds total answer
unfolding adds
adds-none total answer (Ok v) h p = absurd p
adds-none total answer (Err d) h p = rw (h, p)

-- a quotient or a remainder that the library gives, by nothing or a number
pub given_or_none : (o : Option ℕ) (n v : ℕ) → SomeIff o (0 < n) v → unwrap_or o 0 ≡ cond (eqb n 0) 0 v
given_or_none None n v h = rw (eq-eqb n 0 (omega (arith, h)))
given_or_none (Some x) n v h = rw (ne_eqb n 0 (λ (e : n ≡ 0). omega (arith, h.0))) h.1

-- ---- the least of two, where either may have no plan
narrower-both : (p l q m : ℕ) → 1 ≤ p → 1 ≤ q → narrower p l q m ≡ min l m
unfolding narrower
narrower-both p l q m h k = rw (ne_eqb p 0 (λ (e : p ≡ 0). omega arith), ne_eqb q 0 (λ (e : q ≡ 0). omega arith))

narrower-first : (p l q m : ℕ) → 1 ≤ p → q ≡ 0 → narrower p l q m ≡ l
unfolding narrower
narrower-first p l q m h k = rw (ne_eqb p 0 (λ (e : p ≡ 0). omega arith), eq-eqb q 0 k)

narrower-second : (p l q m : ℕ) → p ≡ 0 → narrower p l q m ≡ m
unfolding narrower
narrower-second p l q m h = rw (eq-eqb p 0 h)

narrowest-after : (xs ys : List Figure) → narrowest (xs ++ ys) ≡ narrower (length xs) (narrowest xs) (length ys) (narrowest ys)
unfolding narrowest
narrowest-after [] ys = sym (narrower-second 0 0 (length ys) (narrowest ys) refl)
narrowest-after (x ∷ []) [] = sym (narrower-first 1 x.width 0 0 (omega arith) refl)
narrowest-after (x ∷ []) (y ∷ ys) = sym (narrower-both 1 x.width (length (y ∷ ys)) (narrowest (y ∷ ys)) (omega arith) (omega arith))
narrowest-after (x ∷ z ∷ xs) [] =
    let e = narrower-first (length (x ∷ z ∷ xs)) (min x.width (narrowest (z ∷ xs))) 0 0 (omega arith) refl in
    let d = narrower-first (length (z ∷ xs)) (narrowest (z ∷ xs)) 0 0 (omega arith) refl in
    ap (λ (k : ℕ). min x.width k) (narrowest-after (z ∷ xs) [] ∙ d) ∙ sym e
narrowest-after (x ∷ z ∷ xs) (y ∷ ys) =
    let e = narrower-both (length (x ∷ z ∷ xs)) (min x.width (narrowest (z ∷ xs))) (length (y ∷ ys)) (narrowest (y ∷ ys)) (omega arith) (omega arith) in
    let d = narrower-both (length (z ∷ xs)) (narrowest (z ∷ xs)) (length (y ∷ ys)) (narrowest (y ∷ ys)) (omega arith) (omega arith) in
    ap (λ (k : ℕ). min x.width k) (narrowest-after (z ∷ xs) (y ∷ ys) ∙ d) ∙ turn x.width (narrowest (z ∷ xs)) (narrowest (y ∷ ys)) ∙ sym e
  where
    turn : (a b d : ℕ) → min a (min b d) ≡ min (min a b) d
    turn a b d = omega arith

-- the figures of both together, whatever they are
pub pooled_joins : (xs ys : List Figure) → pooled (report xs) (report ys) ≡ report (xs ++ ys)
unfolding pooled report
pooled_joins xs ys =
    sym (rw (
      length-after xs ys,
      summed-after (λ (x : Figure). x.cells) xs ys,
      summed-after (λ (x : Figure). x.width) xs ys,
      summed-after (λ (x : Figure). x.width * x.rows) xs ys,
      narrowest-after xs ys,
      widest-after xs ys,
    ))

-- ---- turned
pub pooled_turned : (a b : Report) → (a.plans ≡ 0 → b.plans ≡ 0 → a.least ≡ b.least) → pooled a b ≡ pooled b a
unfolding pooled
pooled_turned a b h = rw (plans, cells, widths, areas, greatest, least (ℕ_discrete a.plans 0) (ℕ_discrete b.plans 0))
  where
    plans : a.plans + b.plans ≡ b.plans + a.plans
    plans = omega arith

    cells : a.cells + b.cells ≡ b.cells + a.cells
    cells = omega arith

    widths : a.widths + b.widths ≡ b.widths + a.widths
    widths = omega arith

    areas : a.areas + b.areas ≡ b.areas + a.areas
    areas = omega arith

    greatest : max a.greatest b.greatest ≡ max b.greatest a.greatest
    greatest = omega arith

    least : Dec (a.plans ≡ 0) → Dec (b.plans ≡ 0) → narrower a.plans a.least b.plans b.least ≡ narrower b.plans b.least a.plans a.least
    least (yes p) (yes q) = narrower-second a.plans a.least b.plans b.least p ∙ sym (h p q) ∙ sym (narrower-second b.plans b.least a.plans a.least q)
    least (yes p) (no q) = narrower-second a.plans a.least b.plans b.least p ∙ sym (narrower-first b.plans b.least a.plans a.least (omega arith) p)
    least (no p) (yes q) = narrower-first a.plans a.least b.plans b.least (omega arith) q ∙ sym (narrower-second b.plans b.least a.plans a.least q)
    least (no p) (no q) =
        let m : min a.least b.least ≡ min b.least a.least = omega arith in
        narrower-both a.plans a.least b.plans b.least (omega arith) (omega arith) ∙ m ∙ sym (narrower-both b.plans b.least a.plans a.least (omega arith) (omega arith))
