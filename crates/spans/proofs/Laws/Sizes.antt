-- Sizes of subtrees, taken together from the last cell to the first: size c cells are at or below c. The order of siblings has no part in it.
-- Assumes nothing.
use Rattle.std.specs.Prelude.{◌≡◌, refl, ◌≢◌, List, [], ◌∷◌, length, T, eqb}
use Rattle.std.proofs.Common.{sym, ◌∙◌, arith, eq-eqb, ne_eqb}
use Prim.Native.Nat.{ℕ, suc, pred, ◌+◌, ◌≤◌, ◌<◌}
use Rattle.std.proofs.Math.Decide.{ℕ_discrete}
use Rattle.plan.specs.Lists.{from, keep, mem, total}
use Rattle.plan.proofs.Laws.Lists.{mem-here, mem_there, keep-read, from-read}
use Rattle.plan.specs.Plan.{Table, Is, parent, filed, Child}
use Rattle.plan.proofs.Laws.Plan.{children-total}
use Rattle.spans.proofs.Laws.Columns.{Put, sum_to, sum_ones, sum-part, sum-put}
use Rattle.spans.specs.Spans.{Sized}

-- only the values on the list matter
pub total-same : (f g : ℕ → ℕ) (l : List ℕ) → ((x : ℕ) → T (mem x l) → f x ≡ g x) → total f l ≡ total g l
unfolding total
total-same f g [] h = refl
total-same f g (a ∷ l) h = rw (h a (mem-here a a l refl), total-same f g l (λ x m. h x (mem_there x a l m)))

module _ (t : Table) where
  -- the children of c from cell k on, in file order
  abbrev late : ℕ → ℕ → ℕ → List ℕ
  late c k d = keep (λ s. eqb (parent t s) c) (from k d)

  -- once the d cells from k on are taken in
  pub record Folded (k d : ℕ) (size : ℕ → ℕ) : Type 0 where
    pub few : (c : ℕ) → Is t c → size c ≤ length t
    pub room : sum_to size k ≤ length t
    pub parts : (c : ℕ) → Is t c → size c ≡ suc (total size (late c k d))

  pub folded_start : (size : ℕ → ℕ) → 1 ≤ length t → ((c : ℕ) → Is t c → size c ≡ 1) → Folded (length t) 0 size
  folded_start size n one = record {
    few = λ c i. omega (arith, one c i);
    room = omega (arith, sum_ones size (length t) one);
    parts = λ c i. one c i ∙ (unfold total keep from in refl);
  }

  pub folded_end : {size : ℕ → ℕ} → Folded 1 (pred (length t)) size → Sized t size
  folded_end {size} h = record { few = h.few; parts = λ c i. rw (children-total t size c) (unfold filed in h.parts c i) }

  module _ (f j d : ℕ) (own : Child t f j) (lower : f < j) {size size' : ℕ → ℕ} (h : Folded (suc j) d size) (ps : Put size size' f (size f + size j)) where
    room_next : sum_to size' j ≤ length t
    unfolding sum_to
    room_next = omega (arith, sum-put size size' f _ ps j lower, h.room)

    few_next : (c : ℕ) → Is t c → size' c ≤ length t
    few_next c i = go (ℕ_discrete c f)
      where
        go : Dec (c ≡ f) → size' c ≤ length t
        go (yes e) = rw e (omega (arith, sum-part size' j f lower, room_next))
        go (no e) = omega (arith, ps.off c e, h.few c i)

    -- those after j are as they were
    later : (c : ℕ) → total size' (late c (suc j) d) ≡ total size (late c (suc j) d)
    later c = total-same size' size (late c (suc j) d) (λ x m.
        let l = (from-read (suc j) d x (keep-read (λ s. eqb (parent t s) c) (from (suc j) d) x m).there).0 in
        ps.off x (omega arith))

    late-hit : late f j (suc d) ≡ j ∷ late f (suc j) d
    unfolding keep from
    late-hit = rw (eq-eqb (parent t j) f own.of)

    late_miss : (c : ℕ) → c ≢ f → late c j (suc d) ≡ late c (suc j) d
    unfolding keep from
    late_miss c e = rw (ne_eqb (parent t j) c (λ z. e (sym z ∙ own.of)))

    parts_next : (c : ℕ) → Is t c → size' c ≡ suc (total size' (late c j (suc d)))
    unfolding total
    parts_next c i = go (ℕ_discrete c f)
      where
        go : Dec (c ≡ f) → size' c ≡ suc (total size' (late c j (suc d)))
        go (yes e) = rw (e, late-hit) (omega (arith, ps.here, ps.off j (omega arith), later f, h.parts f (rw e at i)))
        go (no e) = rw (late_miss c e) (omega (arith, ps.off c e, later c, h.parts c i))

    pub folded_next : Folded j (suc d) size'
    folded_next = record { few = few_next; room = room_next; parts = parts_next }
