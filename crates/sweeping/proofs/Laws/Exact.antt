-- What the pass and the sweep find out, of the numbers as the code has them: it holds exactly where the search finds nothing. Assumes nothing.
use Rattle.std.specs.Prelude.{◌≡◌, ℕ, ◌-◌, ◌≤◌, length, T}
use Rattle.std.proofs.Common.{sym, arith}
use Rattle.plan.specs.Plan.{Table, Is, Sound}
use Rattle.rules.specs.Placement.{Placement}
use Rattle.rules.specs.Search.{kept, lowest}
use Rattle.rules.proofs.Laws.Search.{lowest-kept, kept-lowest}
use Rattle.spans.specs.Spans.{Reaches}
use Rattle.looking_sights.specs.Sights.{Sights}
use Rattle.looking.specs.Passes.{passes, pair, row_found, rule_found, all_found}
use Rattle.looking_sights.specs.Sees.{Looked}
use Rattle.sweeping.specs.Swept.{Alone, top, Extremes, Beside, Fills, Clear}
use Rattle.sweeping.proofs.Laws.Kept as enough
use Rattle.sweeping.proofs.Laws.Needed as needed

-- ---- numbers that agree on the table's cells
module _ (t : Table) (s s' : Sights) (same : (c : ℕ) → Is t c → s c ≡ s' c) (up : (c : ℕ) → 1 ≤ c → Is t c → Is t (s c).parent) where
  up' : (c : ℕ) → 1 ≤ c → Is t c → Is t (s' c).parent
  up' c k i = rw (same c i) at (up c k i)

  alone : Alone s (length t) → Alone s' (length t)
  alone h = record {
    each = λ c i. record {
      one = rw (← (same c i)) (h.each c i).one;
      two = λ k. rw (← (same c i), ← (same (s c).parent (up c k i))) ((h.each c i).two k);
    };
  }

  extremes : {high low : ℕ → ℕ} → Extremes t s high low → Extremes t s' high low
  extremes h = record { rights = λ c a i w. rw (← (same a i)) (h.rights c a i w); lefts = λ c a i w. rw (← (same a i)) (h.lefts c a i w) }

  beside : {al : ℕ} {high low : ℕ → ℕ} → Beside s (length t) al high low → Beside s' (length t) al high low
  beside h = record {
    each = λ v j. record {
      each = λ u i e n.
          let k = (h.each v j).each u i (rw (same u i, same v j) e) n in
          record { ends = rw (← (same v j)) k.ends; starts = rw (← (same u i)) k.starts; overlap = k.overlap };
    };
  }

  fills : (c y e : ℕ) → Is t c → Fills s' c y e → Fills s c y e
  fills c y e i (Fills.box a b q) = Fills.box (rw (same c i) a) (rw (same c i) b) (rw (same c i) q)
  fills c y e i (Fills.hang k m a b q) =
      let f = up' c k i in
      Fills.hang k (rw (same c i, same (s' c).parent f) m) (rw (same c i) a) (rw (same c i, same (s' c).parent f) b) (rw (same c i) q)

  clear : Clear s (length t) → Clear s' (length t)
  clear h = record {
    free = λ a b y e e' i j k f g. rw (← (same b j)) (h.free a b y e e' i j (rw (same a i, same b j) k) (fills a y e i f) (fills b y e' j g));
  }

module _ (t : Table) (p : Placement) (s : Sights) (sound : Sound t) (l : Looked t p s) where
  same : (c : ℕ) → Is t c → s c ≡ l.seen c
  same = l.agree.same

  back : (c : ℕ) → Is t c → l.seen c ≡ s c
  back c i = sym (same c i)

  pub parent_is : (c : ℕ) → 1 ≤ c → Is t c → Is t (s c).parent
  parent_is c k i = rw (same c i) (omega (arith, l.sees.parents c i, sound c k i))

  seen-parent : (c : ℕ) → 1 ≤ c → Is t c → Is t (l.seen c).parent
  seen-parent c k i = rw (same c i) at (parent_is c k i)

  -- what they find out is enough
  pub quick_kept : (al : ℕ) (high low : ℕ → ℕ) → Alone s (length t) → Extremes t s high low → Beside s (length t) al high low → Clear s (length t)
      → all_found s al (length t) ≡ kept
  unfolding all_found rule_found row_found pair lowest
  quick_kept al high low h x b z =
      lowest-kept (λ r a b. passes al r a b (s a) (s b)) (length t)
      (λ r c d u v i j. rw (same c i, same d j)
      (enough.all t p l.seen sound l.sees al high low (alone t s l.seen same parent_is h) (extremes t s l.seen same parent_is x) (beside t s l.seen same parent_is b) (clear t s l.seen same parent_is z) r c d u v i j))

  -- and needed
  module _ (al : ℕ) (k : all_found s al (length t) ≡ kept) where
    everywhere : (r a b : ℕ) → 1 ≤ r → r ≤ 5 → Is t a → Is t b → T (passes al r a b (l.seen a) (l.seen b))
    unfolding all_found rule_found row_found pair lowest
    everywhere r a b u v i j = rw (← (same a i), ← (same b j)) (kept-lowest (λ r a b. passes al r a b (s a) (s b)) (length t) k r a b u v i j)

    pub kept_alone : Alone s (length t)
    kept_alone = alone t l.seen s back seen-parent (needed.alone t p l.seen sound l.sees al everywhere)

    pub kept-clear : Clear s (length t)
    kept-clear = clear t l.seen s back seen-parent (needed.clear t p l.seen sound l.sees al everywhere)

    pub kept-beside : (high low : ℕ → ℕ) → ((c : ℕ) → Is t c → Reaches t (λ a. (s a).right) c (high c)) → ((c : ℕ) → Is t c → Reaches t (λ a. top - (s a).x) c (low c)) → ((c : ℕ) → Is t c → (s c).x ≤ top)
        → Beside s (length t) al high low
    kept-beside high low most least near =
        beside t l.seen s back seen-parent
        (needed.beside t p l.seen sound l.sees al everywhere high low
        (λ c i. let r = most c i in record { cell = r.cell; is = r.is; under = r.under; so = rw (← (same r.cell r.is)) r.so })
        (λ c i. let r = least c i in record { cell = r.cell; is = r.is; under = r.under; so = rw (← (same r.cell r.is)) r.so })
        (λ c i. rw (← (same c i)) (near c i)))
