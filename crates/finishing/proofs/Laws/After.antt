-- What the calls after a start leave and answer, whatever calls came between; and that there are such. Assumes nothing.
use Rattle.std.proofs.Math.Path.{◌≡◌, ap, sym}
use Rattle.std.specs.Prelude.{refl, List, ◌++◌, ℕ, zero, suc, ◌≤◌, ◌<◌, get_or, take, replicate, ℤ, Option, Some, None, Result, Ok, Err}
use Rattle.std.proofs.Common.{◌∙◌, subst, length-append, length-drop, length-take-le, lt-ltb, le-ltb, eq-eqb, ne_eqb}
use native.Mathlib.Omega.{arith}
use Rattle.std.proofs.Math.Decide.{dec_lt, ℕ_discrete}
use Rattle.std.proofs.Math.ListN.{length, drop}
use Rattle.std.proofs.lemmas.List.{length-replicate}
use Rattle.std.proofs.Math.Seq.{drop-append_seam}
use Rattle.plan.specs.Limits.{scratch_size, second_size}
use Rattle.plan.specs.Plan.{Table}
use Rattle.plan.specs.Fit.{Fit}
use Rattle.plan.specs.declared.Refusal.{Refusal}
use Rattle.plan.proofs.Laws.Answered.{not_refused}
use Rattle.contours.specs.Sheet.{sheet}
use Rattle.positions.specs.Written.{written}
use Rattle.joining.specs.Joining.{Memory, memory_of}
use Rattle.finishing_order.specs.Postorder.{postorder}
use Rattle.finishing_cell.specs.Made.{cleared, made}
use Rattle.finishing_guard.specs.Guard.{count_at}
use Rattle.finishing_asks.specs.Asks.{start_no, step_no}
use Rattle.finishing.specs.Finishing.{started_as, Starts}
use Rattle.finishing_step.specs.Stepping.{Holds, stepped_at, finished_after, positions_after, Unaltered, Steps}
use Rattle.finishing_step.specs.Advancing.{Advances}
use Rattle.finishing.specs.After.{After, counted}
use Rattle.finishing_cell.proofs.Laws.Final.{count-read}
use Rattle.finishing_step.proofs.Laws.Stepping.{made_none, made-long, held, step-stopped, step-taken}
use Rattle.finishing_asks.proofs.Laws.Asks.{start-asks}
use Rattle.finishing.proofs.Laws.Finishing.{start-done}

-- ---- lent scratches from call to call
drop_front : (n : ℕ) (us vs : List ℕ) → length us ≡ n → drop n (us ++ vs) ≡ vs
drop_front n us vs e = subst (λ (i : ℕ). drop i (us ++ vs) ≡ vs) e (drop-append_seam us vs)

holds-made : (t : Table) (al k : ℕ) (xs xs' ms ms' : List ℕ) → k ≤ length t → xs' ≡ (made t al k).rows ++ drop scratch_size xs → ms' ≡ (made t al k).marks ++ drop second_size ms → Holds t al k xs' ms'
holds-made t al k xs xs' ms ms' l ex em =
    let dx : drop scratch_size xs' ≡ drop scratch_size xs = ap (drop scratch_size) ex ∙ drop_front scratch_size (made t al k).rows (drop scratch_size xs) (made-long t al k).rows in
    let dm : drop second_size ms' ≡ drop second_size ms = ap (drop second_size) em ∙ drop_front second_size (made t al k).marks (drop second_size ms) (made-long t al k).marks in
    record { few = l; scratch = ex ∙ ap (λ (l : List ℕ). (made t al k).rows ++ l) (sym dx); second = em ∙ ap (λ (l : List ℕ). (made t al k).marks ++ l) (sym dm) }

-- a start begins: its scratches are those after no step
as_cleared : (r : Refusal) (n : ℕ) (xs : List ℕ) → r.number ≡ 0 → started_as r n xs ≡ replicate n 0 ++ drop n xs
unfolding started_as
as_cleared r n xs z = rw (eq-eqb r.number 0 z)

module _ (t : Table) (al : ℕ) (xs xs' ms ms' : List ℕ) (s : Starts t al xs xs' ms ms' (Ok tt)) where
  abbrev no_start : Refusal
  no_start = start_no t al (length xs) (length ms)

  none-no : no_start.number ≡ 0
  none-no = not_refused no_start tt tt s.answers

  start_fits : Fit t
  start_fits = (start-asks t al xs ms none-no).0

  start-holds : Holds t al 0 xs' ms'
  unfolding cleared
  start-holds =
      let e = sym (made_none t al) in
      holds-made t al 0 xs xs' ms ms' (omega arith) (s.scratch ∙ as_cleared no_start scratch_size xs none-no ∙ ap (λ (m : Memory). m.rows ++ drop scratch_size xs) e)
      (s.second ∙ as_cleared no_start second_size ms none-no ∙ ap (λ (m : Memory). m.marks ++ drop second_size ms) e)

-- ---- after a start and some steps
ok_same : (a b : Option ℕ) (x : Result (Option ℕ) Refusal) → x ≡ Ok a → x ≡ Ok b → a ≡ b
ok_same a b x p q = cc

module _ (t : Table) (al : ℕ) where
  abbrev stop : (xs ms : List ℕ) → List ℤ → ℕ
  stop xs ms ps = (step_no t al (length xs) (length ms) (length ps)).number

  -- a step that answered a cell was not refused,
  cell-passed : {c : ℕ} {xs xs' ms ms' : List ℕ} {ps ps' : List ℤ} → Steps t al xs xs' ms ms' ps ps' (Ok (Some c)) → stop xs ms ps ≡ 0
  cell-passed {c = c} {xs = xs} {ms = ms} {ps = ps} g = go (ℕ_discrete (stop xs ms ps) 0)
    where
      go : Dec (stop xs ms ps ≡ 0) → stop xs ms ps ≡ 0
      go (yes z) = z
      go (no z) = let q = (g.refuses z).0 in cc

  -- and is one of the first n
  cell_early : (k c : ℕ) → Some c ≡ stepped_at t k → k < length t
  unfolding stepped_at
  cell_early k c e = go (dec_lt k (length t))
    where
      go : Dec (k < length t) → k < length t
      go (yes l) = l
      go (no l) = let q = rw (le-ltb k (length t) (omega arith)) at e in cc

  refused_idle : {e : Refusal} {xs xs' ms ms' : List ℕ} {ps ps' : List ℤ} → Steps t al xs xs' ms ms' ps ps' (Err e) → Unaltered xs xs' ms ms' ps ps'
  refused_idle {e = e} {xs = xs} {xs' = xs'} {ms = ms} {ms' = ms'} {ps = ps} {ps' = ps'} g = go (ℕ_discrete (stop xs ms ps) 0)
    where
      go : Dec (stop xs ms ps ≡ 0) → Unaltered xs xs' ms ms' ps ps'
      go (yes z) = absurd (g.says z e refl)
      go (no z) = (g.refuses z).1

  same_held : {k : ℕ} {xs xs' ms ms' : List ℕ} {ps ps' : List ℤ} → Unaltered xs xs' ms ms' ps ps' → Holds t al k xs ms → Holds t al k xs' ms'
  same_held u h = rw (u.scratch, u.second) h

  -- the scratches hold what the steps made
  pub after_holds : {k : ℕ} {xs ms : List ℕ} → After t al k xs ms → Holds t al k xs ms
  unfolding finished_after
  after_holds (After.began {xs = xs} {xs' = xs'} {ms = ms} {ms' = ms'} s) = start-holds t al xs xs' ms ms' s
  after_holds (After.stepped {k = k} {c = c} {xs = xs} {xs' = xs'} {ms = ms} {ms' = ms'} a g) =
      let s = g.steps (cell-passed g) k (after_holds a) in
      let e : Some c ≡ stepped_at t k = ok_same (Some c) (stepped_at t k) _ refl s.answers in
      let l = cell_early k c e in
      let ex = s.scratch in
      let em = s.second in
      holds-made t al (suc k) xs xs' ms ms' (omega arith) (rw (lt-ltb k (length t) l) at ex) (rw (lt-ltb k (length t) l) at em)
  after_holds (After.refused a g) = same_held (refused_idle g) (after_holds a)
  after_holds (After.done a g) = same_held (g.idle refl) (after_holds a)

  -- the table keeps the questions
  pub after_fit : {k : ℕ} {xs ms : List ℕ} → After t al k xs ms → Fit t
  after_fit (After.began {xs = xs} {xs' = xs'} {ms = ms} {ms' = ms'} s) = start_fits t al xs xs' ms ms' s
  after_fit (After.stepped a g) = after_fit a
  after_fit (After.refused a g) = after_fit a
  after_fit (After.done a g) = after_fit a

  -- any step goes on, by its answer
  pub after_any : (k : ℕ) (xs xs' ms ms' : List ℕ) (ps ps' : List ℤ) (r : Result (Option ℕ) Refusal) → After t al k xs ms → Steps t al xs xs' ms ms' ps ps' r → After t al (counted r k) xs' ms'
  unfolding counted
  after_any k xs xs' ms ms' ps ps' (Ok (Some c)) a g = After.stepped a g
  after_any k xs xs' ms ms' ps ps' (Ok None) a g = After.done a g
  after_any k xs xs' ms ms' ps ps' (Err e) a g = After.refused a g

  -- ---- the next step, if no question refuses it
  module _ (k : ℕ) (xs xs' ms ms' : List ℕ) (ps ps' : List ℤ) (r : Result (Option ℕ) Refusal) (a : After t al k xs ms) (g : Steps t al xs xs' ms ms' ps ps' r) (z : stop xs ms ps ≡ 0) where
    pub next_answers : k < length t → r ≡ Ok (Some (get_or (postorder t) k 0))
    unfolding stepped_at
    next_answers l = let s = (g.steps z k (after_holds a)).answers in rw (lt-ltb k (length t) l) at s

    pub next-goes_on : k < length t → After t al (suc k) xs' ms'
    next-goes_on l = After.stepped {ps = ps} {ps' = ps'} a (rw (next_answers l) at g)

    pub next-done : k ≡ length t → r ≡ Ok None
    unfolding stepped_at
    next-done e = let s = (g.steps z k (after_holds a)).answers in rw (le-ltb k (length t) (omega arith)) at s

    pub next_waits : ¬ (suc k ≡ length t) → ps' ≡ ps
    unfolding positions_after
    next_waits n = let s = (g.steps z k (after_holds a)).positions in rw (ne_eqb (suc k) (length t) n) at s

    pub next_writes : suc k ≡ length t → ps' ≡ written ps (sheet t al) (length t)
    unfolding positions_after
    next_writes e = let s = (g.steps z k (after_holds a)).positions in rw (eq-eqb (suc k) (length t) e) at s

-- ---- there are such calls: a step on what k steps made,
module _ (t : Table) (fit : Fit t) (al k : ℕ) (m : Memory) (e : m ≡ made t al k) (ps : List ℤ) where
  count_same : (j : ℕ) → m ≡ made t al j → j ≡ k
  count_same j q = sym (count-read t fit.sound al j) ∙ ap (λ (n : Memory). get_or n.rows count_at 0) (sym q ∙ e) ∙ count-read t fit.sound al k

  made_idle : stepped_at t k ≡ None → (made t al (finished_after t k) ≡ m) × (positions_after t al k ps ≡ ps)
  unfolding stepped_at finished_after positions_after
  made_idle w = go (dec_lt k (length t))
    where
      go : Dec (k < length t) → (made t al (finished_after t k) ≡ m) × (positions_after t al k ps ≡ ps)
      go (yes l) = let q = rw (lt-ltb k (length t) l) at w in cc
      go (no l) = let ne : ¬ (suc k ≡ length t) = omega arith in (rw (le-ltb k (length t) (omega arith)) (sym e), rw (ne_eqb (suc k) (length t) ne) refl)

  made_advances : Advances t al m (made t al (finished_after t k)) ps (positions_after t al k ps) (stepped_at t k)
  made_advances = record {
    answers = λ j le q. ap (stepped_at t) (sym (count_same j q));
    memory = λ j le q. ap (λ (i : ℕ). made t al (finished_after t i)) (sym (count_same j q));
    positions = λ j le q. ap (λ (i : ℕ). positions_after t al i ps) (sym (count_same j q));
    idle = made_idle;
  }

-- on any positions, refused or not;
module _ (t : Table) (al k : ℕ) (xs ms : List ℕ) (a : After t al k xs ms) (ps : List ℤ) where
  abbrev rows_then : List ℕ
  rows_then = (made t al (finished_after t k)).rows ++ drop scratch_size xs

  abbrev marks_then : List ℕ
  marks_then = (made t al (finished_after t k)).marks ++ drop second_size ms

  step-made : stop t al xs ms ps ≡ 0 → Steps t al xs rows_then ms marks_then ps (positions_after t al k ps) (Ok (stepped_at t k))
  step-made z =
      let m = memory_of (take scratch_size xs) (take second_size ms) in
      step-taken t al xs ms ps z (made_advances t (after_fit t al a) al k m (held t al k xs ms (after_holds t al a)) ps)

  pub step_exists : (xs' : List ℕ) × (ms' : List ℕ) × (ps' : List ℤ) × (r : Result (Option ℕ) Refusal) × Steps t al xs xs' ms ms' ps ps' r
  step_exists = go (ℕ_discrete (stop t al xs ms ps) 0)
    where
      go : Dec (stop t al xs ms ps ≡ 0) → (xs' : List ℕ) × (ms' : List ℕ) × (ps' : List ℤ) × (r : Result (Option ℕ) Refusal) × Steps t al xs xs' ms ms' ps ps' r
      go (yes z) = (rows_then, marks_then, positions_after t al k ps, Ok (stepped_at t k), step-made z)
      go (no z) = (xs, ms, ps, _, step-stopped t al xs ms ps z)

long_as : (n : ℕ) (us xs : List ℕ) → length us ≡ n → n ≤ length xs → length (us ++ drop n xs) ≡ length xs
long_as n us xs e l = length-append us (drop n xs) ∙ (let d = length-drop n xs in omega arith)

-- and so as many steps as there are cells, on any scratches and positions that are long enough
module _ (t : Table) (al : ℕ) (xs ms : List ℕ) (ps : List ℤ) (z : (start_no t al (length xs) (length ms)).number ≡ 0) (y : (step_no t al (length xs) (length ms) (length ps)).number ≡ 0) where
  longs : (scratch_size ≤ length xs) × (second_size ≤ length ms)
  longs = let (f, lx, lm) = start-asks t al xs ms z in (lx, lm)

  pub after-some : (k : ℕ) → k ≤ length t → (xs' : List ℕ) × (ms' : List ℕ) × After t al k xs' ms' × (length xs' ≡ length xs) × (length ms' ≡ length ms)
  after-some zero l =
      let us = replicate {A = ℕ} (length (take scratch_size xs)) 0 in
      let vs = replicate {A = ℕ} (length (take second_size ms)) 0 in
      let ex : length us ≡ scratch_size = length-replicate {A = ℕ} (length (take scratch_size xs)) 0 ∙ length-take-le scratch_size xs longs.0 in
      let em : length vs ≡ second_size = length-replicate {A = ℕ} (length (take second_size ms)) 0 ∙ length-take-le second_size ms longs.1 in
      (us ++ drop scratch_size xs, vs ++ drop second_size ms, After.began (start-done t al xs ms z {ys = us} {ns = vs} refl refl), long_as scratch_size us xs ex longs.0, long_as second_size vs ms em longs.1)
  after-some (suc k) l =
      let (ys, ns, a, ey, en) = after-some k (omega arith) in
      let w : stop t al ys ns ps ≡ 0 = (λ i. (step_no t al (ey i) (en i) (length ps)).number) ∙ y in
      let g = step-made t al k ys ns a ps w in
      let j = finished_after t k in
      (rows_then t al k ys ns a ps, marks_then t al k ys ns a ps, next-goes_on t al k ys _ ns _ ps _ _ a g w (omega arith), long_as scratch_size (made t al j).rows ys (made-long t al j).rows (omega (arith, longs.0)) ∙ ey, long_as second_size (made t al j).marks ns (made-long t al j).marks (omega (arith, longs.1)) ∙ en)
