-- A sibling's whole subtree is finished before the next. Assumes nothing.
use Rattle.std.specs.Prelude.{◌≡◌, refl, ◌≢◌, ◌⊎◌, List, [], ◌∷◌, ◌++◌, length, get_or}
use Rattle.std.proofs.Common.{◌∙◌, ap, sym, subst, arith}
use Rattle.std.proofs.Math.Logic.{inl, inr}
use Prim.Native.Nat.{ℕ, zero, suc, ◌+◌, ◌<◌}
use Rattle.std.proofs.Math.Decide.{ℕ_discrete, dec_lt}
use Rattle.std.proofs.Math.Dec.{T}
use Rattle.contours.proofs.Laws.Forest.{Forest, Grown, forest, grown}
use Rattle.plan.specs.Lists.{At, mem}
use Rattle.plan.specs.Plan.{Table, Sound, parent, children}
use Rattle.plan.proofs.Laws.Lists.{mem-here, mem_there, mem_cases, mem-none, at_get_or, at_mem}
use Rattle.plan.proofs.Laws.Paths.{Below, below-within, from_parents}
use Rattle.plan.proofs.Laws.Plan.{child-read, child-place}
use Rattle.plan.proofs.Laws.Sums.{disjoint}
use Rattle.walk.proofs.Laws.Tree.{Tail, tail_all, tail_head, tail_next, below-below, below-most}
use Rattle.finishing_order.specs.Postorder.{postorder}
use Rattle.finishing_order.proofs.Laws.Postorder.{post, post-all}
use Rattle.finishing_order.proofs.Laws.Members.{post_read, mem_either, below_up}

-- a is at or below one sibling, b at or below a later one
pub record Ahead (t : Table) (a b : ℕ) : Type 0 where
  pub of : ℕ
  pub i : ℕ
  pub j : ℕ
  pub p : ℕ
  pub q : ℕ
  pub less : i < j
  pub first : At (children t of) i p
  pub second : At (children t of) j q
  pub a_below : Below t a p
  pub b_below : Below t b q

module _ (t : Table) (sound : Sound t) where
  -- two cells above one are one above the other
  comparable : (a b x : ℕ) → Below t x a → Below t x b → Below t a b ⊎ Below t b a
  comparable a b = from_parents t sound (λ x. Below t x a → Below t x b → Below t a b ⊎ Below t b a) root up
    where
      root : Below t 0 a → Below t 0 b → Below t a b ⊎ Below t b a
      root v w =
          let z : a ≡ 0 = omega (arith, below-most t sound v) in
          let y : b ≡ 0 = omega (arith, below-most t sound w) in
          inl (rw (z, y) Below.here)

      up : (m : ℕ) → (Below t (parent t (suc m)) a → Below t (parent t (suc m)) b → Below t a b ⊎ Below t b a) → Below t (suc m) a → Below t (suc m) b → Below t a b ⊎ Below t b a
      up m g v w = go (below_up t sound v) (below_up t sound w)
        where
          go : (suc m ≡ a) ⊎ Below t (parent t (suc m)) a → (suc m ≡ b) ⊎ Below t (parent t (suc m)) b → Below t a b ⊎ Below t b a
          go (inl e) _ = inl (subst (λ (z : ℕ). Below t z b) e w)
          go (inr v') (inl e) = inr (subst (λ (z : ℕ). Below t z a) e v)
          go (inr v') (inr w') = g v' w'

  -- two children of one cell that share a cell are the same
  share : (f i j p q x : ℕ) → At (children t f) i p → At (children t f) j q → Below t x p → Below t x q → i ≡ j
  share f i j p q x a b v w =
      let e = disjoint t sound f p q x (child-read t f i p a) (child-read t f j q b) (below-within t sound v) (below-within t sound w) in
      child-place t f i j q (subst (λ (z : ℕ). At (children t f) i z) e a) b

  -- strictly below: then its parent is at or below
  under : (a b f k : ℕ) → At (children t f) k a → Below t a b → a ≢ b → Below t f b
  under a b f k h v ne = elim (below_up t sound v) [ inl e ↦ absurd (ne e) | inr w ↦ subst (λ (z : ℕ). Below t z b) (child-read t f k a h).of w ]

  -- x at or below c, y at or below a later sibling of c: then y is not earlier
  not_earlier : (f o c o' s x y : ℕ) → At (children t f) o c → At (children t f) o' s → o < o' → Below t x c → Below t y s → Ahead t y x → ⊥
  not_earlier f o c o' s x y hc hs lt v w e = go (ℕ_discrete e.q c) (comparable c e.q x v e.b_below)
    where
      go : Dec (e.q ≡ c) → Below t c e.q ⊎ Below t e.q c → ⊥
      go (yes z) _ =
          let same : e.of ≡ f = sym (child-read t e.of e.j e.q e.second).of ∙ ap (parent t) z ∙ (child-read t f o c hc).of in
          let first : At (children t f) e.i e.p = subst (λ (g : ℕ). At (children t g) e.i e.p) same e.first in
          let second : At (children t f) e.j e.q = subst (λ (g : ℕ). At (children t g) e.j e.q) same e.second in
          let m = share f e.i o' e.p s y first hs e.a_below w in
          let n = share f e.j o e.q c x second hc e.b_below v in
          omega (arith, m, n, e.less)
      go (no ne) (inl u) =
          let up = under c e.q f o hc u (λ z. ne (sym z)) in
          let y-q : Below t y e.q = below-below w (below-below (Below.down o' s hs Below.here) up) in
          omega (arith, share e.of e.i e.j e.p e.q y e.first e.second e.a_below y-q, e.less)
      go (no ne) (inr u) =
          let up = under e.q c e.of e.j e.second u ne in
          let y-c : Below t y c = below-below e.a_below (below-below (Below.down e.i e.p e.first Below.here) up) in
          omega (arith, share f o o' c s y hc hs y-c w)

  -- x strictly below c: then c is not earlier
  not_above : (c x : ℕ) → Below t x c → Ahead t c x → ⊥
  not_above c x v e = omega (arith, share e.of e.i e.j e.p e.q x e.first e.second (below-below v e.a_below) e.b_below, e.less)

abbrev Sorted : Table → List ℕ → Type 0
Sorted t [] = Unit {0}
Sorted t (x ∷ l) = ((c : ℕ) → T (mem c l) → Ahead t c x → ⊥) × Sorted t l

sorted_append : (t : Table) (xs ys : List ℕ) → Sorted t xs → Sorted t ys → ((x c : ℕ) → T (mem x xs) → T (mem c ys) → Ahead t c x → ⊥) → Sorted t (xs ++ ys)
sorted_append t [] ys p q h = q
sorted_append t (x ∷ xs) ys p q h =
    ((λ c m. elim (mem_either c xs ys m) [ inl k ↦ p.0 c k | inr k ↦ h x c (mem-here x x xs refl) k ]), sorted_append t xs ys p.1 q (λ z c m. h z c (mem_there z x xs m)))

sorted_at : (t : Table) (l : List ℕ) → Sorted t l → (i j : ℕ) → i < j → j < length l → Ahead t (get_or l j 0) (get_or l i 0) → ⊥
sorted_at t [] o i j a b = absurd (omega arith)
sorted_at t (x ∷ l) o i zero a b = absurd (omega arith)
sorted_at t (x ∷ l) o zero (suc j) a b = o.0 (get_or l j 0) (at_mem l j (get_or l j 0) (at_get_or l j 0 (omega arith)))
sorted_at t (x ∷ l) o (suc i) (suc j) a b = sorted_at t l o.1 i j (omega arith) (omega arith)

module _ (t : Table) (sound : Sound t) where
  post_sorted : {cs : List ℕ} {F : Forest} → Grown t cs F → (f o : ℕ) → Tail t f o cs → Sorted t (post F)
  unfolding post
  post_sorted Grown.nil f o ta = tt
  post_sorted (Grown.cons {c = c} {cs = cs} {F = F} {r = r} g k) f o ta =
      let hc = tail_head t f o c cs ta in
      let later : (x q : ℕ) → Below t x c → T (mem q (post r)) → Ahead t q x → ⊥ =
      (λ x q v m.
      let d = post_read t k q m in
      not_earlier t sound f o c (o + suc d.at) d.top x q hc (ta.on (suc d.at) d.top d.there) (omega arith) v d.below) in
      sorted_append t (post F) (c ∷ post r) (post_sorted g c 0 (tail_all t c)) ((λ q m. later c q Below.here m), post_sorted k f (suc o) (tail_next t f o c cs ta))
      (λ x q m n.
      let d = post_read t g x m in
      let v : Below t x c = Below.down d.at d.top d.there d.below in
      elim (mem_cases q c (post r) n) [ inl e ↦ (λ w. not_above t sound c x v (subst (λ (z : ℕ). Ahead t z x) e w)) | inr j ↦ later x q v j ])

  -- of two cells, the one below the earlier sibling is finished first
  pub siblings_first : (i j : ℕ) → i < length (postorder t) → j < length (postorder t) → Ahead t (get_or (postorder t) i 0) (get_or (postorder t) j 0) → i < j
  siblings_first i j a b e =
      let s : Sorted t (postorder t) = rw (post-all t) (sorted_append t (post (forest t (length t) 0)) (0 ∷ []) (post_sorted (grown t sound 0) 0 0 (tail_all t 0)) ((λ c m. absurd (mem-none c m)), tt) (λ x c m n.
      elim (mem_cases c 0 [] n) [
        | inl z ↦ (λ w. omega (arith, z, below-most t sound w.a_below, (child-read t w.of w.i w.p w.first).low))
        | inr k ↦ absurd (mem-none c k)
      ])) in
      elim (dec_lt j i) [
        | yes l ↦ absurd (sorted_at t (postorder t) s j i l a e)
        | no ge ↦ elim (ℕ_discrete i j) [
          | yes q ↦ absurd (omega (arith, share t sound e.of e.i e.j e.p e.q (get_or (postorder t) j 0) e.first e.second (subst (λ (z : ℕ). Below t z e.p) (ap (λ (k : ℕ). get_or (postorder t) k 0) q) e.a_below) e.b_below, e.less))
          | no ne ↦ omega arith
        ]
      ]
