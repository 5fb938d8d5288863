-- Every cell is finished once: children before their parent, a sibling's whole subtree before the next. Assumes nothing.
use Rattle.std.specs.Prelude.{◌≡◌, refl, ◌≢◌, ◌⊎◌, List, [], ◌∷◌, ◌++◌, Bool, true, false, not, cond, length, take, drop, T, eqb}
use Rattle.std.proofs.Common.{◌∙◌, subst, arith, length-append, eq-eqb, ne_eqb}
use Rattle.std.proofs.Math.Path.{ap}
use Rattle.std.proofs.Math.Logic.{inl, inr}
use Prim.Native.Nat.{ℕ, zero, suc, ◌+◌, ◌≤◌, ◌<◌}
use Rattle.std.proofs.Math.Decide.{ℕ_discrete}
use Rattle.std.proofs.Math.Seq.{take-nil}
use Rattle.contours.proofs.Laws.Forest.{Forest, none, tree, Grown, forest, grown}
use Rattle.plan.specs.Lists.{At, keep, mem}
use Rattle.plan.specs.Plan.{Table, Is, Sound, parent, children}
use Rattle.plan.proofs.Laws.Lists.{mem-here, mem_there, mem_cases, mem-none, keep_show}
use Rattle.plan.proofs.Laws.Paths.{Below, below_split, below_root, below-is, child_less}
use Rattle.plan.proofs.Laws.Plan.{child-read}
use Rattle.plan.proofs.Laws.Sums.{total-parts, total-subtree}
use Rattle.walk.proofs.Laws.Tree.{Tail, tail_all, tail_head, tail_next, sum, below-most, out_later, sum-within}
use Rattle.finishing_order.specs.Postorder.{postorder}
use Rattle.finishing_order.proofs.Laws.Postorder.{post, post-all}

-- ---- members of two lists
pub mem-left : (x : ℕ) (l r : List ℕ) → T (mem x l) → T (mem x (l ++ r))
mem-left x [] r h = absurd (mem-none x h)
mem-left x (a ∷ l) r h = elim (mem_cases x a l h) [ inl e ↦ mem-here x a (l ++ r) e | inr k ↦ mem_there x a (l ++ r) (mem-left x l r k) ]

pub mem-right : (x : ℕ) (l r : List ℕ) → T (mem x r) → T (mem x (l ++ r))
mem-right x [] r h = h
mem-right x (a ∷ l) r h = mem_there x a (l ++ r) (mem-right x l r h)

pub mem_either : (x : ℕ) (l r : List ℕ) → T (mem x (l ++ r)) → T (mem x l) ⊎ T (mem x r)
mem_either x [] r h = inr h
mem_either x (a ∷ l) r h = go (mem_cases x a (l ++ r) h) (mem_either x l r)
  where
    more : T (mem x l) ⊎ T (mem x r) → T (mem x (a ∷ l)) ⊎ T (mem x r)
    more (inl k) = inl (mem_there x a l k)
    more (inr k) = inr k

    go : (x ≡ a) ⊎ T (mem x (l ++ r)) → (T (mem x (l ++ r)) → T (mem x l) ⊎ T (mem x r)) → T (mem x (a ∷ l)) ⊎ T (mem x r)
    go (inl e) g = inl (mem-here x a l e)
    go (inr k) g = more (g k)

-- ---- a list that has every number below n is not shorter
keep_less : (f : ℕ → Bool) (l : List ℕ) → length (keep f l) ≤ length l
unfolding keep
keep_less f [] = omega arith
keep_less f (a ∷ l) = go (f a) (keep_less f l)
  where
    go : (b : Bool) → length (keep f l) ≤ length l → length (cond b (a ∷ keep f l) (keep f l)) ≤ suc (length l)
    go true h = omega arith
    go false h = omega arith

abbrev but : ℕ → ℕ → Bool
but m x = not (eqb m x)

keep-but : (m : ℕ) (l : List ℕ) → T (mem m l) → length (keep (but m) l) < length l
unfolding keep
keep-but m [] h = absurd (mem-none m h)
keep-but m (a ∷ l) h = go (ℕ_discrete m a) (mem_cases m a l h) (keep-but m l)
  where
    in_or_not : (b : Bool) → length (keep (but m) l) < length l → length (cond b (a ∷ keep (but m) l) (keep (but m) l)) < suc (length l)
    in_or_not true q = omega arith
    in_or_not false q = omega arith

    go : Dec (m ≡ a) → (m ≡ a) ⊎ T (mem m l) → (T (mem m l) → length (keep (but m) l) < length l) → length (cond (but m a) (a ∷ keep (but m) l) (keep (but m) l)) < suc (length l)
    go (yes e) _ g = rw (eq-eqb m a e) (omega (arith, keep_less (but m) l))
    go (no ne) (inl e) g = absurd (ne e)
    go (no ne) (inr k) g = in_or_not (but m a) (g k)

covers : (n : ℕ) (l : List ℕ) → ((a : ℕ) → a < n → T (mem a l)) → n ≤ length l
covers zero l h = omega arith
covers (suc m) l h =
    let less = keep-but m l (h m (omega arith)) in
    let rest = covers m (keep (but m) l) (λ a lt. let ne : m ≢ a = omega arith in keep_show (but m) l a (h a (omega arith)) (rw (ne_eqb m a ne) tt)) in
    omega arith

-- ---- who is in the order
length-post : (F : Forest) → length (post F) ≡ sum (λ x. 1) F
unfolding post sum
length-post none = refl
length-post (tree c ss r) = rw (length-append (post ss) (c ∷ post r)) (omega (arith, length-post ss, length-post r))

module _ (t : Table) where
  pub post_show : {cs : List ℕ} {F : Forest} → Grown t cs F → (i s x : ℕ) → At cs i s → Below t x s → T (mem x (post F))
  unfolding post
  post_show Grown.nil i s x h w = absurd h
  post_show (Grown.cons {c = c} {cs = cs} {F = F} {r = r} g k) zero s x h w =
      elim (below_split (rw h at w)) [
        | inl e ↦ mem-right x (post F) (c ∷ post r) (mem-here x c (post r) e)
        | inr d ↦ mem-left x (post F) (c ∷ post r) (post_show g d.0 d.1 x d.2 d.3)
      ]
  post_show (Grown.cons {c = c} {cs = cs} {F = F} {r = r} g k) (suc i) s x h w = mem-right x (post F) (c ∷ post r) (mem_there x c (post r) (post_show k i s x h w))

  pub record Found (cs : List ℕ) (x : ℕ) : Type 0 where
    pub at : ℕ
    pub top : ℕ
    pub there : At cs at top
    pub below : Below t x top

  pub post_read : {cs : List ℕ} {F : Forest} → Grown t cs F → (x : ℕ) → T (mem x (post F)) → Found cs x
  unfolding post
  post_read Grown.nil x m = absurd (mem-none x m)
  post_read (Grown.cons {c = c} {cs = cs} {F = F} {r = r} g k) x m = go (mem_either x (post F) (c ∷ post r) m) (post_read g x) (post_read k x)
    where
      inner : Found (children t c) x → Found (c ∷ cs) x
      inner d = record { at = 0; top = c; there = refl; below = Below.down d.at d.top d.there d.below }

      outer : Found cs x → Found (c ∷ cs) x
      outer d = record { at = suc d.at; top = d.top; there = d.there; below = d.below }

      go : T (mem x (post F)) ⊎ T (mem x (c ∷ post r)) → (T (mem x (post F)) → Found (children t c) x) → (T (mem x (post r)) → Found cs x) → Found (c ∷ cs) x
      go (inl h) p q = inner (p h)
      go (inr h) p q = elim (mem_cases x c (post r) h) [ inl e ↦ record { at = 0; top = c; there = refl; below = rw e Below.here } | inr l ↦ outer (q l) ]

-- ---- once x is finished, no later cell is x or a child of x
abbrev pub Stays : Table → ℕ → ℕ → Type 0
Stays t x c = (c ≢ x) × (1 ≤ c → parent t c ≢ x)

abbrev pub Ordered : Table → List ℕ → Type 0
Ordered t [] = Unit {0}
Ordered t (x ∷ l) = ((c : ℕ) → T (mem c l) → Stays t x c) × Ordered t l

ordered_append : (t : Table) (xs ys : List ℕ) → Ordered t xs → Ordered t ys → ((x c : ℕ) → T (mem x xs) → T (mem c ys) → Stays t x c) → Ordered t (xs ++ ys)
ordered_append t [] ys p q h = q
ordered_append t (x ∷ xs) ys p q h =
    ((λ c m. elim (mem_either c xs ys m) [ inl k ↦ p.0 c k | inr k ↦ h x c (mem-here x x xs refl) k ]), ordered_append t xs ys p.1 q (λ z c m. h z c (mem_there z x xs m)))

-- x is finished, a later one is not
pub ordered_later : (t : Table) (l : List ℕ) → Ordered t l → (k x : ℕ) → T (mem x (take k l)) → (c : ℕ) → T (mem c (drop k l)) → Stays t x c
ordered_later t [] o k x m c n = absurd (mem-none x (rw (take-nil {A = ℕ} k) at m))
ordered_later t (y ∷ l) o zero x m c n = absurd (mem-none x m)
ordered_later t (y ∷ l) o (suc k) x m c n = go (mem_cases x y (take k l) m) (λ q. ordered_later t l o.1 k x q c n)
  where
    drop-mem : (k : ℕ) (l : List ℕ) → T (mem c (drop k l)) → T (mem c l)
    drop-mem zero l h = h
    drop-mem (suc k) [] h = h
    drop-mem (suc k) (z ∷ l) h = mem_there c z l (drop-mem k l h)

    go : (x ≡ y) ⊎ T (mem x (take k l)) → (T (mem x (take k l)) → Stays t x c) → Stays t x c
    go (inl e) g = rw e (o.0 c (drop-mem k l n))
    go (inr q) g = g q

module _ (t : Table) (sound : Sound t) where
  -- a cell at or below s is s, or its parent is at or below s
  pub below_up : {q s : ℕ} → Below t q s → (q ≡ s) ⊎ Below t (parent t q) s
  below_up Below.here = inl refl
  below_up (Below.down {a = a} {c = c} i s h w) = go (below_up w)
    where
      go : (a ≡ s) ⊎ Below t (parent t a) s → (a ≡ c) ⊎ Below t (parent t a) c
      go (inl e) = inr (rw (ap (parent t) e ∙ (child-read t c i s h).of) Below.here)
      go (inr v) = inr (Below.down i s h v)

  -- x is below c, q below a later sibling of c
  module _ (f o c : ℕ) (cs : List ℕ) (ta : Tail t f o (c ∷ cs)) (x : ℕ) (w : Below t x c) where
    c_less : (f < c) × Is t c
    c_less = child_less t sound f o c (tail_head t f o c cs ta)

    stays_later : (q : ℕ) → Found t cs q → Stays t x q
    stays_later q d = ((λ e. out_later t sound f o c cs ta x d.at d.top d.there (subst (λ (z : ℕ). Below t z d.top) e d.below) w), λ l. go (below_up d.below))
      where
        go : (q ≡ d.top) ⊎ Below t (parent t q) d.top → parent t q ≢ x
        go (inl e) g =
            let p = child-read t f (o + suc d.at) d.top (ta.on (suc d.at) d.top d.there) in
            omega (arith, ap (parent t) e, p.of, below-most t sound w, c_less)
        go (inr v) g = out_later t sound f o c cs ta x d.at d.top d.there (subst (λ (z : ℕ). Below t z d.top) g v) w

  post_ordered : {cs : List ℕ} {F : Forest} → Grown t cs F → (f o : ℕ) → Tail t f o cs → Ordered t (post F)
  unfolding post
  post_ordered Grown.nil f o ta = tt
  post_ordered (Grown.cons {c = c} {cs = cs} {F = F} {r = r} g k) f o ta =
      let less = c_less f o c cs ta c Below.here in
      let of = (child-read t f o c (tail_head t f o c cs ta)).of in
      ordered_append t (post F) (c ∷ post r) (post_ordered g c 0 (tail_all t c)) ((λ q m. stays_later f o c cs ta c Below.here q (post_read t k q m)), post_ordered k f (suc o) (tail_next t f o c cs ta))
      (λ x q m n.
      let d = post_read t g x m in
      let lt = child_less t sound c d.at d.top d.there in
      let far = below-most t sound d.below in
      elim (mem_cases q c (post r) n) [
        | inl e ↦ ((λ z. omega (arith, e, z, far, lt)), λ l z. omega (arith, ap (parent t) e, of, z, far, lt, less))
        | inr j ↦ stays_later f o c cs ta x (Below.down d.at d.top d.there d.below) q (post_read t k q j)
      ])

  -- ---- the whole order
  pub order_has : (x : ℕ) → Is t x → T (mem x (postorder t))
  order_has x i =
      rw (post-all t)
      (elim (below_split (below_root t sound x i)) [
        | inl e ↦ mem-right x (post (forest t (length t) 0)) (0 ∷ []) (mem-here x 0 [] e)
        | inr d ↦ mem-left x (post (forest t (length t) 0)) (0 ∷ []) (post_show t (grown t sound 0) d.0 d.1 x d.2 d.3)
      ])

  pub order_is : 1 ≤ length t → (x : ℕ) → T (mem x (postorder t)) → Is t x
  order_is some x m =
      elim (mem_either x (post (forest t (length t) 0)) (0 ∷ []) (rw (post-all t) at m)) [
        | inl h ↦ let d = post_read t (grown t sound 0) x h in below-is t sound (child_less t sound 0 d.at d.top d.there).1 d.below
        | inr h ↦ elim (mem_cases x 0 [] h) [ inl e ↦ omega arith | inr n ↦ absurd (mem-none x n) ]
      ]

  pub order_ordered : Ordered t (postorder t)
  order_ordered =
      rw (post-all t)
      (ordered_append t (post (forest t (length t) 0)) (0 ∷ []) (post_ordered (grown t sound 0) 0 0 (tail_all t 0)) ((λ c m. absurd (mem-none c m)), tt)
      (λ x c m n.
      let d = post_read t (grown t sound 0) x m in
      let lt = child_less t sound 0 d.at d.top d.there in
      let far = below-most t sound d.below in
      elim (mem_cases c 0 [] n) [ inl e ↦ ((λ z. omega (arith, e, z, far, lt)), λ l. absurd (omega (arith, e, l))) | inr j ↦ absurd (mem-none c j) ]))

  pub order_length : 1 ≤ length t → length (postorder t) ≡ length t
  order_length some =
      let low = covers (length t) (postorder t) order_has in
      let in_table : (i s : ℕ) → At (children t 0) i s → Is t s = (λ i s h. (child_less t sound 0 i s h).1) in
      let high : length (postorder t) ≤ length t = rw (post-all t, length-append (post (forest t (length t) 0)) (0 ∷ [])) (omega (
        arith,
        length-post (forest t (length t) 0),
        sum-within t sound (λ x. 1) (grown t sound 0) in_table,
        total-parts t sound (λ x. 1) 0 some,
        total-subtree t (λ x. 1) 0 1 (λ a i. omega arith),
      )) in
      omega arith
