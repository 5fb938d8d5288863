-- What the loop of the search keeps, of every table and placement whose numbers it reads. Assumes nothing.
use Rattle.std.specs.Prelude.{◌≡◌, refl, Bool, true, false, cond, List, length, set, leb, Some, None}
use Rattle.std.proofs.Math.Path.{sym}
use Rattle.std.proofs.Common.{◌∙◌, inl, inr, get_or-set_same}
use Prim.Native.Nat.{ℕ, zero, suc, ◌+◌, ◌-◌, ◌≤◌, ◌<◌}
use native.Mathlib.Omega.{arith}
use Rattle.std.proofs.Math.ListN.{get_or, length-set}
use Rattle.std.proofs.Math.Seq.{get_or-set_other}
use Rattle.std.proofs.Math.Decide.{ℕ_discrete}
use Rattle.std.proofs.Math.Dec.{eqb, ltb}
use Rattle.plan.specs.Limits.{most_cells}
use Rattle.plan.specs.Trees.{Column}
use Rattle.plan.specs.Plan.{Table, Is}
use Rattle.rules.specs.Placement.{Placement}
use Rattle.looking_sights.specs.Sights.{Sights}
use Rattle.why_spec.specs.Measures.{across}
use Rattle.why_spec.specs.Search.{before, link}
use Rattle.why_spec.proofs.Laws.Reached.{reached-is}
use Rattle.why_spec.specs.Layers.{New}
use Rattle.why_spec.proofs.Laws.Trail.{back_new}
use Rattle.why_search.specs.Rules.{rule_between, Inside}
use Rattle.why_search.specs.Stops.{stop}
use Rattle.why_ties.specs.Ties.{rule_of}
use Rattle.why_layers.specs.Marks.{seek, among, leads_on, source, at_end, ending, mark_first, mark_next}
use Rattle.why_layers.proofs.Seeking.{among-some, among-none}
use Rattle.why_search.proofs.Laws.Stops.{stop-here, stop-back}
use Rattle.why_search.specs.Found.{Marks, Open, Stands, Told, Begun}
use Rattle.why_search.proofs.Laws.Marks.{seek_cases, first_marks, next_marks, source_is, ending-none, ending-some}

module _ (s : Sights) (al n low high : ℕ) where
  pub record Searching (xs : List ℕ) (m : ℕ) : Type 0 where
    pub k : ℕ
    pub is : m ≡ suc k
    pub less : k ≤ n
    pub means : (t : Table) (p : Placement) → Stands t al p s n low high → Marks t al p xs k × Open t al p k

  pub searching_starts : (xs : List ℕ) → Column xs n (mark_first s low) → Searching xs 1
  unfolding mark_first
  searching_starts xs h = record { k = 0; is = refl; less = omega arith; means = λ t p g. (first_marks t al p _ g.ties xs (λ c i. h.each c (omega (arith, g.size)) ∙ rw (g.lefts c i)), λ j l. absurd (omega arith)) }

  at_most : (f : ℕ → Bool) → seek f 0 n ≤ n
  at_most f = elim (seek_cases f 0 n) [ inl q ↦ omega (arith, q.0) | inr q ↦ omega (arith, q.0) ]

  pub searching_turns : (xs ys : List ℕ) (m : ℕ) → Searching xs m → m ≤ n → None ≡ among n (ending s n xs m high) → Column ys n (mark_next s al n xs m) → Searching ys (m + 1)
  unfolding ending mark_next source leads_on at_end
  searching_turns xs ys m h l z col =
      record {
        k = suc h.k;
        is = omega (arith, h.is);
        less = omega (arith, h.is);
        means = λ t p g. on t p g (h.means t p g).0 (h.means t p g).1;
      }
    where
      on : (t : Table) (p : Placement) → Stands t al p s n low high → Marks t al p xs h.k → Open t al p h.k → Marks t al p ys (suc h.k) × Open t al p (suc h.k)
      on t p g mk op =
          let q = h.is in
          let w = g.size in
          let end : seek (at_end s xs m high) 0 n ≡ n = omega (arith, among-none n (seek (at_end s xs m high) 0 n) z, at_most (at_end s xs m high)) in (
            next_marks t al p (λ a b. ltb 0 (rule_of al a b (s a) (s b))) g.ties xs ys h.k mk (λ c i. rw (w, ← q) (col.each c (omega arith))),
            ending-none t al p (λ e. eqb (s e).right high) g.tops xs h.k mk op (rw (w, ← q) end),
          )

  pub searching_stops : (xs : List ℕ) (k e : ℕ) → Searching xs (k + 1) → k < n → Some e ≡ among n (ending s n xs (k + 1) high) → (t : Table) (p : Placement) → Stands t al p s n low high
      → Told t al p n (Some (record { marks = xs; count = k; last = e }))
  unfolding ending at_end
  searching_stops xs k e h l f t p g =
      let (z, u) = among-some n (seek (at_end s xs (k + 1) high) 0 n) f in
      let q = h.is in
      let w = g.size in
      let (mk, op) = h.means t p g in
      let r : k ≡ h.k = omega arith in
      let c = ending-some t al p (λ e. eqb (s e).right high) g.tops xs h.k e (omega arith) mk op (rw (w, ← q) z) (omega arith) in
      rw r (c, omega arith, u, mk)

  pub searching_ends : (xs : List ℕ) (m : ℕ) → Searching xs m → n < m → (t : Table) (p : Placement) → Stands t al p s n low high → Told t al p n None
  searching_ends xs m h l t p g =
      let q = h.is in
      let r : h.k ≡ n = omega (arith, h.less) in
      rw r at (h.means t p g).1

-- ---- the way back
module _ (s : Sights) (al n : ℕ) (marks : List ℕ) (count last : ℕ) where
  pub record Tracing (out : List ℕ) (k b : ℕ) : Type 0 where
    pub long : length out ≡ most_cells
    pub k_high : k ≤ count
    pub b_is : b < n
    pub means : (t : Table) (p : Placement) → Begun t al p s n marks count last
        → New t al (across t) p k b × ((j : ℕ) → k ≤ j → j ≤ count → get_or out j 0 ≡ stop t al p count last j) × ((j : ℕ) → j ≤ k → stop t al p count last j ≡ stop t al p k b j)

  pub tracing_starts : (out : List ℕ) → length out ≡ most_cells → count < n → n ≤ most_cells → last < n → Tracing (set out count last) count last
  tracing_starts out l c f i =
      record {
        long = simp length-set l;
        k_high = omega arith;
        b_is = i;
        means = λ t p g. (
          g.new,
          λ j u v. let e : j ≡ count = omega arith in rw e (get_or-set_same out count last 0 (omega arith) ∙ sym (stop-here t al p count last count (omega arith))),
          λ j u. refl,
        );
      }

  pub tracing_turns : (out : List ℕ) (k b a : ℕ) → Tracing out k b → 0 < k → n ≤ most_cells → count < n → Some a ≡ among n (source s al n marks (k - 1 + 1) b) → Tracing (set out (k - 1) a) (k - 1) a
  unfolding source leads_on
  tracing_turns out zero b a h l f c q = absurd (omega arith)
  tracing_turns out (suc k) b a h l f c q =
      let z : suc k - 1 ≡ k = omega arith in
      rw z record {
        long = simp length-set h.long;
        k_high = omega (arith, h.k_high);
        b_is = hit.1;
        means = λ t p g. step t p g (h.means t p g).0 (h.means t p g).1 (h.means t p g).2;
      }
    where
      y : suc k - 1 + 1 ≡ suc k
      y = omega arith

      hit : (a ≡ seek (leads_on s al marks (suc k) b) 0 n) × (a < n)
      hit = among-some n (seek (leads_on s al marks (suc k) b) 0 n) (rw y at q)

      step : (t : Table) (p : Placement) → Begun t al p s n marks count last → New t al (across t) p (suc k) b → ((j : ℕ) → suc k ≤ j → j ≤ count → get_or out j 0 ≡ stop t al p count last j)
          → ((j : ℕ) → j ≤ suc k → stop t al p count last j ≡ stop t al p (suc k) b j)
          → New t al (across t) p k a × ((j : ℕ) → k ≤ j → j ≤ count → get_or (set out k a) j 0 ≡ stop t al p count last j) × ((j : ℕ) → j ≤ k → stop t al p count last j ≡ stop t al p k a j)
      step t p g nw done rest =
          let w = g.stands.size in
          let (q, u) = source_is t al p (λ a b. ltb 0 (rule_of al a b (s a) (s b))) g.stands.ties marks count k b g.marked (omega (arith, h.k_high)) nw in
          let same : a ≡ before t al (across t) p k b = hit.0 ∙ rw (← w) q in
          let back : (j : ℕ) → j ≤ k → stop t al p count last j ≡ stop t al p k a j = λ j v. rest j (omega arith) ∙ rw same (stop-back t al p k b j v) in (
            rw same (back_new t al (across t) p k b nw).0,
            λ j v x. elim (ℕ_discrete j k) [
              | yes y ↦ rw y (get_or-set_same out k a 0 (omega (arith, h.long, h.k_high)) ∙ sym (back k (omega arith) ∙ stop-here t al p k a k (omega arith)))
              | no y ↦ get_or-set_other out k j a 0 y ∙ done j (omega arith) x
            ],
            back,
          )

  pub tracing_ends : (out : List ℕ) (k b : ℕ) → Tracing out k b → k ≤ 0 → (t : Table) (p : Placement) → Begun t al p s n marks count last → (j : ℕ) → j ≤ count → get_or out j 0 ≡ stop t al p count last j
  tracing_ends out k b h l t p g j v = (h.means t p g).1 j (omega arith) v

  -- the search leaves no gap
  pub tracing_holds : (out : List ℕ) (k b : ℕ) → Tracing out k b → 0 < k → None ≡ among n (source s al n marks (k - 1 + 1) b) → (t : Table) (p : Placement) → Begun t al p s n marks count last → (j : ℕ) → j ≤ count → get_or out j 0 ≡ stop t al p count last j
  unfolding source leads_on
  tracing_holds out zero b h l f t p g j v = absurd (omega arith)
  tracing_holds out (suc k) b h l f t p g j v =
      let x : suc k - 1 + 1 ≡ suc k = omega arith in
      let u = among-none n (seek (leads_on s al marks (suc k) b) 0 n) (rw x at f) in
      let w = g.stands.size in
      let (q, i) = source_is t al p (λ a b. ltb 0 (rule_of al a b (s a) (s b))) g.stands.ties marks count k b g.marked (omega (arith, h.k_high)) (h.means t p g).0 in
      absurd (let y = rw w at i in omega arith)

-- ---- the cells of the chain, and the rules of its links
stop_is : (t : Table) (al : ℕ) (p : Placement) (k b j : ℕ) → New t al (across t) p k b → Is t (stop t al p k b j)
unfolding stop
stop_is t al p zero b j n = reached-is t al (across t) p 0 b n
stop_is t al p (suc k) b j n = go (leb (suc k) j) (stop_is t al p k (before t al (across t) p k b) j (back_new t al (across t) p k b n).0)
  where
    go : (u : Bool) → Is t (stop t al p k (before t al (across t) p k b) j) → Is t (cond u b (stop t al p k (before t al (across t) p k b) j))
    go true i = reached-is t al (across t) p (suc k) b n.0
    go false i = i

module _ (t : Table) (al : ℕ) (p : Placement) (s : Sights) (n : ℕ) (marks : List ℕ) (count last : ℕ) (g : Begun t al p s n marks count last) (cells : List ℕ)
    (each : (j : ℕ) → j ≤ count → get_or cells j 0 ≡ stop t al p count last j) where
  cell_is : (j : ℕ) → j ≤ count → Is t (get_or cells j 0)
  cell_is j l = rw (each j l) (stop_is t al p count last j g.new)

  pub chain-inside : Inside cells n count
  chain-inside = record { inside = λ j l. omega (arith, cell_is j l, g.stands.size) }

  pub rule_named : (j r : ℕ) → j < count → r ≡ rule_between s al cells j → r ≡ (link t al p (get_or cells j 0) (get_or cells (j + 1) 0)).rule
  unfolding rule_between link
  rule_named j r l e = e ∙ g.stands.names (get_or cells j 0) (get_or cells (j + 1) 0) (cell_is j (omega arith)) (cell_is (j + 1) (omega arith))
