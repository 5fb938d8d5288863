-- What a start does, what the steps after it answered, and what a reading answers between them. Assumes nothing.
use Rattle.std.specs.Prelude.{◌≡◌, List, ◌++◌, Bool, ℕ, ◌≤◌, ◌<◌, length, get_or, take, drop, replicate, ℤ, ltb, Option, Some, None, Result, Ok, Err, ⊤}
use Rattle.std.proofs.Math.Path.{refl}
use Rattle.std.proofs.Common.{ap, sym, ◌∙◌, arith, take-suc, get_or-take}
use Rattle.std.proofs.Math.Bool.{true, false}
use Rattle.std.proofs.Math.Decide.{dec_lt, ℕ_discrete}
use Rattle.std.proofs.Math.Dec.{T}
use borrow.Author.Tests.{eq-eqb, ne_eqb}
use Rattle.whole.specs.Whole.{plus}
use Rattle.plan.specs.Limits.{scratch_size, second_size}
use Rattle.plan.specs.Lists.{At, mem}
use Rattle.plan.specs.Plan.{Table, Is, cells, children, earlier}
use Rattle.plan.specs.Fit.{Fit}
use Rattle.plan.specs.Questions.{asked, or_else, answered}
use Rattle.plan.proofs.Laws.Questions.{both-none, first-none}
use Rattle.plan.proofs.Laws.Answered.{answered_none, answered_some}
use Rattle.plan.proofs.Laws.Calls.{reach-refusal}
use Rattle.plan.specs.declared.Refusal.{Refusal}
use Rattle.rules.specs.Placement.{left_extent, right_extent}
use Rattle.contours.specs.Sheet.{sheet}
use Rattle.finishing_order.specs.Postorder.{postorder}
use Rattle.finishing_asks.specs.Asks.{start_no, step_no, reach_no}
use Rattle.finishing.specs.Finishing.{started_as, Starts}
use Rattle.finishing_reach.specs.Reaching.{reached_of, Reaches}
use Rattle.finishing_step.specs.Stepping.{Unaltered, Steps}
use Rattle.finishing_step.proofs.Laws.Stepping.{step-asks}
use Rattle.finishing.specs.After.{After}
use Rattle.finishing.proofs.Laws.After.{after_holds, after_fit, after-some, next_answers, next-done}
use Rattle.finishing_order.proofs.Laws.Promised.{size, finished-by, finished-once, children-first, siblings_first}
use Rattle.finishing_reach.specs.declared.Sides.{Sides}
use Rattle.demands.specs.Outcomes.{told}

-- ---- a start
module _ (t : Table) (al : ℕ) (xs xs' ms ms' : List ℕ) (r : Result ⊤ Refusal) (g : Starts t al xs xs' ms ms' r) where
  abbrev why : Refusal
  why = start_no t al (length xs) (length ms)

  pub start_unchanged : ¬ (why.number ≡ 0) → (r ≡ Err why) × (xs' ≡ xs) × (ms' ≡ ms)
  unfolding started_as
  start_unchanged z =
      let b = g.scratch in
      let d = g.second in
      let ne = ne_eqb why.number 0 z in
      (g.answers ∙ answered_some why tt z, rw ne at b, rw ne at d)

  pub start_clears : why.number ≡ 0 → (r ≡ Ok tt) × (xs' ≡ replicate scratch_size 0 ++ drop scratch_size xs) × (ms' ≡ replicate second_size 0 ++ drop second_size ms)
  unfolding started_as
  start_clears z =
      let b = g.scratch in
      let d = g.second in
      let e = eq-eqb why.number 0 z in
      (g.answers ∙ answered_none why tt z, rw e at b, rw e at d)

-- ---- a step that answered a cell
cell-passed : (t : Table) (al : ℕ) (xs xs' ms ms' : List ℕ) (ps ps' : List ℤ) (x : ℕ) → Steps t al xs xs' ms ms' ps ps' (Ok (Some x)) → (step_no t al (length xs) (length ms) (length ps)).number ≡ 0
cell-passed t al xs xs' ms ms' ps ps' x g = go (ℕ_discrete (step_no t al (length xs) (length ms) (length ps)).number 0)
  where
    go : Dec ((step_no t al (length xs) (length ms) (length ps)).number ≡ 0) → (step_no t al (length xs) (length ms) (length ps)).number ≡ 0
    go (yes z) = z
    go (no z) = let q = (g.refuses z).0 in cc

cells_same : (x y : ℕ) (r : Result (Option ℕ) Refusal) → r ≡ Ok (Some x) → r ≡ Ok (Some y) → x ≡ y
cells_same x y r p q = cc

pub after-cell : (t : Table) (al k : ℕ) (xs xs' ms ms' : List ℕ) (ps ps' : List ℤ) (x : ℕ) → After t al k xs ms → Steps t al xs xs' ms ms' ps ps' (Ok (Some x)) → (k < length t) × (x ≡ get_or (postorder t) k 0)
after-cell t al k xs xs' ms ms' ps ps' x a g = go (cell-passed t al xs xs' ms ms' ps ps' x g) (dec_lt k (length t))
  where
    go : (step_no t al (length xs) (length ms) (length ps)).number ≡ 0 → Dec (k < length t) → (k < length t) × (x ≡ get_or (postorder t) k 0)
    go z (yes l) = (l, cells_same x _ _ refl (next_answers t al k xs xs' ms ms' ps ps' (Ok (Some x)) a g z l))
    go z (no l) = let q = next-done t al k xs xs' ms ms' ps ps' (Ok (Some x)) a g z (omega (arith, (after_holds t al a).few)) in cc

-- all that was answered so far
pub after-told : (t : Table) (al : ℕ) {k : ℕ} {xs ms : List ℕ} (a : After t al k xs ms) → told a ≡ take k (postorder t)
unfolding told
after-told t al (After.began s) = refl
after-told t al (After.stepped {k = k} {c = c} {xs = xs} {xs' = xs'} {ms = ms} {ms' = ms'} {ps = ps} {ps' = ps'} a g) =
    let (l, e) = after-cell t al k xs xs' ms ms' ps ps' c a g in
    let fit : Fit t = (step-asks t al xs ms ps (cell-passed t al xs xs' ms ms' ps ps' c g)).0 in
    rw (after-told t al a, e) (sym (take-suc (postorder t) k 0 (omega (arith, size t fit))))
after-told t al (After.refused a g) = after-told t al a
after-told t al (After.done a g) = after-told t al a

-- each cell once, in the order of finishing; and after n steps every cell
module _ (t : Table) (al k : ℕ) (xs ms : List ℕ) (a : After t al k xs ms) where
  fit : Fit t
  fit = after_fit t al a

  few : k ≤ length t
  few = (after_holds t al a).few

  told_at : (i : ℕ) → i < k → get_or (told a) i 0 ≡ get_or (postorder t) i 0
  told_at i l = ap (λ (cs : List ℕ). get_or cs i 0) (after-told t al a) ∙ get_or-take k (postorder t) i 0 l

  pub told-once : (i j : ℕ) → i < k → j < k → get_or (told a) i 0 ≡ get_or (told a) j 0 → i ≡ j
  told-once i j p q e = finished-once t fit i j (omega (arith, few)) (omega (arith, few)) (sym (told_at i p) ∙ e ∙ told_at j q)

  pub told-children : (i j n : ℕ) → i < k → j < k → At (children t (get_or (told a) i 0)) n (get_or (told a) j 0) → j < i
  told-children i j n p q h = children-first t fit i j n (omega (arith, few)) (omega (arith, few)) (rw (told_at i p, told_at j q) at h)

  pub told_siblings : (i j : ℕ) → i < k → j < k → T (earlier t (get_or (told a) i 0) (get_or (told a) j 0)) → i < j
  told_siblings i j p q h = siblings_first t fit i j (omega (arith, few)) (omega (arith, few)) (rw (told_at i p, told_at j q) at h)

  pub told-all : k ≡ length t → (x : ℕ) → Is t x → (i : ℕ) × (i < k) × (get_or (told a) i 0 ≡ x)
  told-all e x h =
      let (i, l, q) = finished-by t fit x h in
      let m : i < k = omega arith in
      (i, m, told_at i m ∙ q)

-- a further step: "done", nothing altered, and so on
pub all_done : (t : Table) (al k : ℕ) (xs xs' ms ms' : List ℕ) (ps ps' : List ℤ) (r : Result (Option ℕ) Refusal) → After t al k xs ms → Steps t al xs xs' ms ms' ps ps' r → (step_no t al (length xs) (length ms) (length ps)).number ≡ 0 → k ≡ length t
    → (r ≡ Ok None) × Unaltered xs xs' ms ms' ps ps' × After t al k xs' ms'
all_done t al k xs xs' ms ms' ps ps' r a g z e =
    let q = next-done t al k xs xs' ms ms' ps ps' r a g z e in
    (q, g.idle q, After.done {ps = ps} {ps' = ps'} a (rw q at g))

-- ---- there are such calls
pub after_exists : (t : Table) (al : ℕ) (xs ms : List ℕ) (ps : List ℤ) → (start_no t al (length xs) (length ms)).number ≡ 0 → (step_no t al (length xs) (length ms) (length ps)).number ≡ 0
    → (k : ℕ) → k ≤ length t → (xs' : List ℕ) × (ms' : List ℕ) × After t al k xs' ms'
after_exists t al xs ms ps z y k l = let (xs', ms', a, ex, em) = after-some t al xs ms ps z y k l in (xs', ms', a)

-- ---- a reading, of the cell c, where no question but 20 refuses, after k steps
module _ (t : Table) (al : ℕ) (xs ms : List ℕ) (c : ℕ) (r : Result Sides Refusal) (g : Reaches t al xs ms c r) (z : (reach_no t al (length xs) (length ms) (cells t) c).number ≡ 0) (k : ℕ) (a : After t al k xs ms) where
  abbrev rest : List ℕ → Refusal
  rest finished = or_else (asked 16 (ltb c (length t)) 0) (asked 20 (mem c finished) c)

  yeses : ((start_no t al (length xs) (length ms)).number ≡ 0) × ((asked 16 (ltb c (length t)) 0).number ≡ 0)
  yeses =
      let y : (or_else (start_no t al (length xs) (length ms)) (rest (cells t))).number ≡ 0 = ap (λ (x : Refusal). x.number) (sym (reach-refusal t al (length xs) (length ms) (cells t) c)) ∙ z in
      let (a, b) = both-none (start_no t al (length xs) (length ms)) (rest (cells t)) y in
      (a, (both-none (asked 16 (ltb c (length t)) 0) _ b).0)

  only_20 : (finished : List ℕ) → reach_no t al (length xs) (length ms) finished c ≡ asked 20 (mem c finished) c
  only_20 finished = reach-refusal t al (length xs) (length ms) finished c ∙ first-none _ (rest finished) yeses.0 ∙ first-none _ _ yeses.1

  read_as : (b : Bool) → mem c (told a) ≡ b → r ≡ reached_of t al c (asked 20 b c)
  read_as b e =
      g.reads k (after_holds t al a)
      ∙ ap (reached_of t al c) (only_20 (take k (postorder t)) ∙ ap (λ (b : Bool). asked 20 b c) (ap (mem c) (sym (after-told t al a)) ∙ e))

  pub reach-final : T (mem c (told a)) → r ≡ Ok (record { left = plus (left_extent t (sheet t al) c); right = plus (right_extent t (sheet t al) c) })
  unfolding answered asked
  reach-final m = go (mem c (told a)) refl m
    where
      go : (b : Bool) → mem c (told a) ≡ b → T b → r ≡ Ok (record { left = plus (left_extent t (sheet t al) c); right = plus (right_extent t (sheet t al) c) })
      go true e m = read_as true e
      go false e m = absurd m

  pub reach_waits : ¬ (T (mem c (told a))) → r ≡ Err (record { number = 20; cell = c })
  unfolding answered asked
  reach_waits m = go (mem c (told a)) refl m
    where
      go : (b : Bool) → mem c (told a) ≡ b → ¬ (T b) → r ≡ Err (record { number = 20; cell = c })
      go true e m = absurd (m tt)
      go false e m = read_as false e
