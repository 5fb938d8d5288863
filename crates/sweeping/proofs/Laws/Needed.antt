-- The pass and the sweep ask no more than the rules do: where no pair of cells breaks a rule, they find what they look for. Assumes nothing.
use Rattle.std.specs.Prelude.{◌≡◌, refl, Bool, ◌⊎◌, ◌≢◌, ℕ, zero, suc, ◌+◌, ◌-◌, ◌≤◌, ◌<◌, length, get_or, T}
use Rattle.std.proofs.Common.{sym, ◌∙◌, ap, subst, inl, inr, arith}
use Rattle.std.proofs.Math.Decide.{dec_lt}
use Rattle.whole.proofs.Laws.Says.{both, says_le, says_lt, is_true, itself}
use Rattle.plan.specs.Lists.{At}
use Rattle.plan.proofs.Laws.Lists.{at_less, at_get_or, at_same}
use Rattle.plan.specs.Plan.{Table, Is, Sound, parent, children, within}
use Rattle.plan.proofs.Laws.Plan.{child-read, child_show}
use Rattle.plan.proofs.Laws.Paths.{Below, below_split, below-within, within-below, within-self, within-child, within_suc}
use Rattle.plan.proofs.Laws.Siblings.{Earlier, says_earlier}
use Rattle.rules.specs.Placement.{Placement}
use Rattle.spans.specs.Spans.{Reaches}
use Rattle.spans.proofs.Laws.Kin.{Kin, kin, within_trans}
use Rattle.spans.proofs.Laws.Spans.{says_within, earlier-is, first-once}
use Rattle.looking_sights.specs.Sights.{Sights}
use Rattle.looking.specs.Passes.{pass1, pass2, passes}
use Rattle.looking_sights.specs.Sees.{Sees}
use Rattle.sweeping.specs.Swept.{Alone, top, Parted, Beside, Fills, Clear}
use Rattle.sweeping.proofs.Laws.Kept.{says1, says2, says3, says4, says5, Ends, Starts, BoxApart, StemApart}

module _ (t : Table) (p : Placement) (s : Sights) (sound : Sound t) (g : Sees t p s) where
  -- ---- where two cells stand
  inside : (c a : ℕ) → Is t c → Is t a → T (within t c a) → ((s c).first ≤ (s a).first) × ((s a).first < (s c).end)
  inside c a i j w = (both (says_le (s c).first (s a).first) (says_lt (s a).first (s c).end)).read ((says_within t sound g.spans c a i j).show w)

  apart : (a b : ℕ) → Is t a → Is t b → Earlier t a b → (s a).end ≤ (s b).first
  apart a b i j e = (says_le (s a).end (s b).first).read (subst (λ (z : Bool). T z) (sym (earlier-is t sound g.spans a b i j)) ((says_earlier t a b).show e))

  siblings : (f i j u v a b : ℕ) → i < j → At (children t f) i u → At (children t f) j v → Is t a → Is t b → T (within t u a) → T (within t v b) → (s a).end ≤ (s b).first
  siblings f i j u v a b l h k m n w z =
      apart a b m n (record { p = u; q = v; elder = record { c = f; order = record { i = i; j = j; less = l; first = h; second = k } }; a_under = w; b_under = z })

  -- b is child number j of f
  record Born (f j b : ℕ) : Type 0 where
    place : At (children t f) j b
    is : Is t f
    in_f : T (within t f b)
    first_low : (s f).first < (s b).first
    high : (s b).first < (s f).end

  born : (b : ℕ) → 1 ≤ b → Is t b → (j : ℕ) × Born (parent t b) j b
  born b l i =
      let (j, h) = child_show t (parent t b) b (record { low = l; is = i; of = refl }) in
      let o = child-read t (parent t b) j b h in
      let f : Is t (parent t b) = omega (arith, sound b l i) in
      let w : T (within t (parent t b) b) = within-child t sound (parent t b) b b o (within-self t sound b) in
      (j, record { place = h; is = f; in_f = w; first_low = (g.spans.under (parent t b) j b h).0; high = (inside (parent t b) b f i w).1 })

  up : (a b : ℕ) → 1 ≤ b → a ≢ b → T (within t a b) → T (within t a (parent t b))
  up a zero l n w = absurd (omega arith)
  up a (suc m) l n w = elim (within_suc t sound a m w) [ inl e ↦ absurd (n e) | inr k ↦ k ]

  -- ---- rows
  y-base : (c : ℕ) → Is t c → (s c).y ≤ (s c).base
  y-base c i = omega (arith, g.bases c i)

  base-bottom : (c : ℕ) → Is t c → (s c).base ≤ (s c).bottom
  base-bottom c i = g.bottoms.all c c i (within-self t sound c)

  bottom_in : (c d : ℕ) → Is t c → Is t d → T (within t c d) → (s d).bottom ≤ (s c).bottom
  bottom_in c d i j w =
      let r = g.bottoms.one d j in
      omega (arith, r.so, g.bottoms.all c r.cell r.is (within_trans t sound c d r.cell j r.is w r.under))

  module _ (al : ℕ) (k : (r a b : ℕ) → 1 ≤ r → r ≤ 5 → Is t a → Is t b → T (passes al r a b (s a) (s b))) where
    rule1 : (c : ℕ) → Is t c → T (pass1 c c (s c))
    unfolding passes
    rule1 c i = k 1 c c (omega arith) (omega arith) i i

    rule2 : (a b : ℕ) → Is t a → Is t b → T (pass2 a (s a) (s b))
    unfolding passes
    rule2 a b i j = k 2 a b (omega arith) (omega arith) i j

    rule3 : (a b : ℕ) → Is t a → Is t b → Ends (s a) (s b) × Starts (s a) (s b)
    unfolding passes
    rule3 a b i j = (says3 (s a) (s b)).read (k 3 a b (omega arith) (omega arith) i j)

    rule4 : (a b : ℕ) → Is t a → Is t b → (s a).end ≤ (s b).first → BoxApart (s a) (s b) × StemApart (s a) (s b)
    unfolding passes
    rule4 a b i j = (says4 (s a) (s b)).read (k 4 a b (omega arith) (omega arith) i j)

    rule5 : (a b : ℕ) → Is t a → Is t b → (s a).end ≤ (s b).first → (s a).right + 1 ≤ (s b).x + al
    unfolding passes
    rule5 a b i j = (says5 al (s a) (s b)).read (k 5 a b (omega arith) (omega arith) i j)

    -- ---- S1 and S2
    parent_in : (c : ℕ) → 1 ≤ c → Is t c → Is t (s c).parent
    parent_in c l i = omega (arith, g.parents c i, sound c l i)

    pub alone : Alone s (length t)
    alone = record {
      each = λ c i. record {
        one = is_true (itself (pass1 c c (s c))) (rule1 c i);
        two = λ l. is_true (itself (pass2 (s c).parent (s (s c).parent) (s c))) (rule2 (s c).parent c (parent_in c l i) i);
      };
    }

    -- ---- S3
    ends : (c i u v a : ℕ) → At (children t c) i u → At (children t c) (suc i) v → Is t a → T (within t u a) → (s a).right < (s v).x
    ends c i u v a h m ia w =
        let iu : Is t u = (child-read t c i u h).is in
        let iv : Is t v = (child-read t c (suc i) v m).is in
        let n = inside u a iu ia w in
        (rule3 a v ia iv).0 (omega (arith, g.spans.elder c i u v h m), omega (arith, g.spans.beside c i u v h m))

    starts : (c i u v b : ℕ) → At (children t c) i u → At (children t c) (suc i) v → Is t b → T (within t v b) → (s u).x < (s b).x
    starts c i u v b h m ib w =
        let iu : Is t u = (child-read t c i u h).is in
        let iv : Is t v = (child-read t c (suc i) v m).is in
        let n = inside v b iv ib w in
        (rule3 u b iu ib).1 (omega (arith, g.spans.beside c i u v h m), omega (arith, g.spans.younger c i u v h m))

    -- an earlier sibling's subtree ends before a later one's x, and its x is before all of the later one's subtree
    ends-far : (c i j u v a : ℕ) → i < j → At (children t c) i u → At (children t c) j v → Is t a → T (within t u a) → (s a).right < (s v).x
    ends-far c i zero u v a l h m ia w = absurd (omega arith)
    ends-far c i (suc j) u v a l h m ia w = go (dec_lt i j) (ends-far c i j u (get_or (children t c) j 0) a)
      where
        q : ℕ
        q = get_or (children t c) j 0

        at-q : At (children t c) j q
        at-q = at_get_or (children t c) j 0 (omega (arith, at_less (children t c) (suc j) v m))

        go : Dec (i < j) → (i < j → At (children t c) i u → At (children t c) j q → Is t a → T (within t u a) → (s a).right < (s q).x) → (s a).right < (s v).x
        go (yes d) r = omega (arith, r d h at-q ia w, starts c j q v v at-q m (child-read t c (suc j) v m).is (within-self t sound v))
        go (no d) r = let e : i ≡ j = omega arith in ends c i u v a h (rw e m) ia w

    starts-far : (c i j u v b : ℕ) → i < j → At (children t c) i u → At (children t c) j v → Is t b → T (within t v b) → (s u).x < (s b).x
    starts-far c i zero u v b l h m ib w = absurd (omega arith)
    starts-far c i (suc j) u v b l h m ib w = go (dec_lt i j) (starts-far c i j u (get_or (children t c) j 0) (get_or (children t c) j 0))
      where
        q : ℕ
        q = get_or (children t c) j 0

        at-q : At (children t c) j q
        at-q = at_get_or (children t c) j 0 (omega (arith, at_less (children t c) (suc j) v m))

        go : Dec (i < j) → (i < j → At (children t c) i u → At (children t c) j q → Is t q → T (within t q q) → (s u).x < (s q).x) → (s u).x < (s b).x
        go (yes d) r = omega (arith, r d h at-q (child-read t c j q at-q).is (within-self t sound q), starts c j q v b at-q m ib w)
        go (no d) r = let e : i ≡ j = omega arith in starts c i u v b h (rw e m) ib w

    -- of two cells below f: a is below an elder sibling of the child b; b is below a younger sibling of the child a
    left_of : (f j b a : ℕ) → At (children t f) j b → Is t b → Is t a → T (within t f a) → a ≢ f → (s a).first < (s b).first → (s a).right < (s b).x
    left_of f j b a h ib ia w n l = go (below_split (within-below t sound f a ia w))
      where
        step : (i u : ℕ) → At (children t f) i u → T (within t u a) → Dec (i < j) → Dec (j < i) → (s a).right < (s b).x
        step i u m v (yes d) e = ends-far f i j u b a d m h ia v
        step i u m v (no d) (yes e) = absurd (omega (arith, siblings f j i b u b a e h m ib ia (within-self t sound b) v, g.spans.some b ib))
        step i u m v (no d) (no e) =
            let q : i ≡ j = omega arith in
            let same : u ≡ b = at_same (children t f) j u b (rw (← q) m) h in
            absurd (omega (arith, inside b a ib ia (rw same at v)))

        go : (a ≡ f) ⊎ ((i : ℕ) × (u : ℕ) × At (children t f) i u × Below t a u) → (s a).right < (s b).x
        go (inl e) = absurd (n e)
        go (inr (i, u, m, v)) = step i u m (below-within t sound v) (dec_lt i j) (dec_lt j i)

    right_of : (f i a b : ℕ) → At (children t f) i a → Is t a → Is t b → T (within t f b) → b ≢ f → (s a).end ≤ (s b).first → (s a).x < (s b).x
    right_of f i a b h ia ib w n l = go (below_split (within-below t sound f b ib w))
      where
        step : (j u : ℕ) → At (children t f) j u → T (within t u b) → Dec (i < j) → Dec (j < i) → (s a).x < (s b).x
        step j u m v (yes d) e = starts-far f i j a u b d h m ib v
        step j u m v (no d) (yes e) = absurd (omega (arith, siblings f j i u a b a e m h ib ia v (within-self t sound a), g.spans.some a ia, g.spans.some b ib))
        step j u m v (no d) (no e) =
            let q : i ≡ j = omega arith in
            let same : u ≡ a = at_same (children t f) j u a m (rw q at h) in
            absurd (omega (arith, inside a b ia ib (rw same at v)))

        go : (b ≡ f) ⊎ ((j : ℕ) × (u : ℕ) × At (children t f) j u × Below t b u) → (s a).x < (s b).x
        go (inl e) = absurd (n e)
        go (inr (j, u, m, v)) = step j u m (below-within t sound v) (dec_lt i j) (dec_lt j i)

    -- ---- rows of what is below a cell
    level : (c : ℕ) → Is t c → (s c).y ≡ (s c).due
    level c i = ((says1 c c (s c)).read (rule1 c i) refl).0

    child-row : (f j b : ℕ) → At (children t f) j b → (s b).y ≡ (s f).base + 1
    child-row f j b h = let o = child-read t f j b h in level b o.is ∙ g.dues.each b f o

    lower : {d c : ℕ} → Below t d c → Is t d → (d ≡ c) ⊎ ((s c).base < (s d).y)
    lower Below.here i = inl refl
    lower (Below.down {a = d} {c = c} j u h w) i = go (lower w i)
      where
        go : (d ≡ u) ⊎ ((s u).base < (s d).y) → (d ≡ c) ⊎ ((s c).base < (s d).y)
        go (inl e) = inr (omega (arith, ap (λ (z : ℕ). (s z).y) e, child-row c j u h))
        go (inr l) = inr (omega (arith, child-row c j u h, y-base u (child-read t c j u h).is))

    below_row : (c d : ℕ) → Is t d → T (within t c d) → d ≢ c → (s c).base < (s d).y
    below_row c d i w n = elim (lower (within-below t sound c d i w) i) [ inl e ↦ absurd (n e) | inr l ↦ l ]

    -- ---- S4: a cell that hangs in row y is the appointed child of f, in a row of f's stem
    record Hung (c y f : ℕ) : Type 0 where
      j : ℕ
      place : At (children t f) j c
      is : Is t f
      in_f : T (within t f c)
      before : (s f).first < (s c).first
      x_is : (s f).x ≡ (s c).x
      nth_is : (s c).nth ≡ (s f).middle
      head : (s f).y ≤ y
      past : (s f).base < y
      low : y ≤ (s f).bottom

    hung : (c y : ℕ) → Is t c → 1 ≤ c → (s c).nth ≡ (s (s c).parent).middle → (s c).bottom < y → y ≤ (s (s c).parent).bottom → Hung c y (parent t c)
    hung c y i l n b m =
        let (j, o) = born c l i in
        let e : (s c).parent ≡ parent t c = g.parents c i in
        let row = child-row (parent t c) j c o.place in
        let past : (s (parent t c)).base < y = omega (arith, row, y-base c i, base-bottom c i) in
        record {
          j = j;
          place = o.place;
          is = o.is;
          in_f = o.in_f;
          before = o.first_low;
          x_is = (says2 (parent t c) (s (parent t c)) (s c)).read (rule2 (parent t c) c o.is i) (e, rw e at n);
          nth_is = rw e at n;
          head = omega (arith, y-base (parent t c) o.is);
          past = past;
          low = rw e at m;
        }

    module _ (a b y : ℕ) (ia : Is t a) (ib : Is t b) (first : (s a).first < (s b).first) where
      other : a ≢ b
      other e = omega (arith, ap (λ (z : ℕ). (s z).first) e)

      -- b is below a: they share no row
      above : T (within t a b) → {e e' : ℕ} → Fills s a y e → Fills s b y e' → e < (s b).x
      above w (Fills.box u v q) (Fills.box u' v' q') = absurd (omega (arith, below_row a b ib w (λ z. other (sym z))))
      above w (Fills.box u v q) (Fills.hang l n u' v' q') = absurd (omega (arith, below_row a b ib w (λ z. other (sym z)), y-base b ib, base-bottom b ib))
      above w (Fills.hang l n u v q) (Fills.box u' v' q') = absurd (omega (arith, base-bottom b ib, bottom_in a b ia ib w))
      above w (Fills.hang l n u v q) (Fills.hang l' n' u' v' q') =
          let h = hung b y ib l' n' u' v' in
          absurd (omega (arith, h.low, bottom_in a (parent t b) ia h.is (up a b l' other w)))

      module _ (l : (s a).end ≤ (s b).first) where
        not_above : T (within t a b) → ⊥
        not_above w = omega (arith, inside a b ia ib w)

        not_under : T (within t b a) → ⊥
        not_under w = omega (arith, inside b a ib ia w)

        earlier_fills : {e e' : ℕ} → Fills s a y e → Fills s b y e' → e < (s b).x
        earlier_fills {e} {e'} (Fills.box u v q) (Fills.box u' v' q') = omega (arith, (rule4 a b ia ib l).0 (omega (arith, base-bottom b ib), omega arith))
        earlier_fills {e} {e'} (Fills.box u v q) (Fills.hang m n u' v' q') = go (hung b y ib m n u' v')
          where
            right_low : (s a).right < (s b).x → e < (s b).x
            right_low r = omega arith

            go : Hung b y (parent t b) → e < (s b).x
            go h = elim (kin t sound a (parent t b) ia h.is) [
              | Kin.above w ↦ absurd (not_above (within_trans t sound a (parent t b) b h.is ib w h.in_f))
              | Kin.under w ↦ right_low (left_of (parent t b) h.j b a h.place ib ia w (λ z. not_above (rw (← z) at h.in_f)) first)
              | Kin.before z ↦ right_low (omega (arith, (rule4 a (parent t b) ia h.is (apart a (parent t b) ia h.is z)).0 (omega (arith, h.low), omega (arith, h.head)), h.x_is))
              | Kin.after z ↦ absurd (omega (arith, apart (parent t b) a h.is ia z, inside (parent t b) b h.is ib h.in_f))
            ]
        earlier_fills {e} {e'} (Fills.hang m n u v q) (Fills.box u' v' q') = go (hung a y ia m n u v)
          where
            go : Hung a y (parent t a) → e < (s b).x
            go h = elim (kin t sound (parent t a) b h.is ib) [
              | Kin.above w ↦ omega (arith, right_of (parent t a) h.j a b h.place ia ib w (λ z. not_under (rw (← z) at h.in_f)) l)
              | Kin.under w ↦ absurd (not_under (within_trans t sound b (parent t a) a h.is ia w h.in_f))
              | Kin.before z ↦ omega (arith, (rule4 (parent t a) b h.is ib (apart (parent t a) b h.is ib z)).1 (omega (arith, h.past, h.low), (omega (arith, h.past, base-bottom b ib), omega (arith, h.low))), h.x_is)
              | Kin.after z ↦ absurd (omega (arith, apart b (parent t a) ib h.is z, h.before, g.spans.some b ib))
            ]
        earlier_fills {e} {e'} (Fills.hang m n u v q) (Fills.hang m' n' u' v' q') = go (hung a y ia m n u v) (hung b y ib m' n' u' v')
          where
            go : Hung a y (parent t a) → Hung b y (parent t b) → e < (s b).x
            go h k = elim (kin t sound (parent t a) (parent t b) h.is k.is) [
              | Kin.above w ↦ omega (arith, right_of (parent t a) h.j a b h.place ia ib (within_trans t sound (parent t a) (parent t b) b k.is ib w k.in_f) (λ z. omega (arith, ap (λ (x : ℕ). (s x).first) z, h.before)) l)
              | Kin.under w ↦ omega (arith, left_of (parent t b) k.j b a k.place ib ia (within_trans t sound (parent t b) (parent t a) a h.is ia w h.in_f) (λ z. not_above (rw (← z) at k.in_f)) first, g.rights a ia)
              | Kin.before z ↦ omega (arith, (rule4 (parent t a) (parent t b) h.is k.is (apart (parent t a) (parent t b) h.is k.is z)).1 (omega (arith, h.past, h.low), (omega (arith, h.past, k.low), omega (arith, k.head, h.low))), h.x_is, k.x_is)
              | Kin.after z ↦ absurd (omega (arith, apart (parent t b) (parent t a) k.is h.is z, inside (parent t b) b k.is ib k.in_f, h.before))
            ]

      fills_apart : {e e' : ℕ} → Fills s a y e → Fills s b y e' → e < (s b).x
      fills_apart f f' = elim (kin t sound a b ia ib) [
        | Kin.above w ↦ above w f f'
        | Kin.under w ↦ absurd (omega (arith, inside b a ib ia w))
        | Kin.before z ↦ earlier_fills (apart a b ia ib z) f f'
        | Kin.after z ↦ absurd (omega (arith, apart b a ib ia z, g.spans.some b ib))
      ]

    pub clear : Clear s (length t)
    clear = record { free = λ a b y e e' i j l f f'. fills_apart a b y i j l f f' }

    -- ---- S3 and S5, where the extremes are those of some cell
    module _ (high low : ℕ → ℕ) (most : (c : ℕ) → Is t c → Reaches t (λ a. (s a).right) c (high c)) (least : (c : ℕ) → Is t c → Reaches t (λ a. top - (s a).x) c (low c)) (near : (c : ℕ) → Is t c → (s c).x ≤ top) where
      parted : (c i u v : ℕ) → At (children t c) i u → At (children t c) (suc i) v → Parted s al high low u v
      parted c i u v h m =
          let iu : Is t u = (child-read t c i u h).is in
          let iv : Is t v = (child-read t c (suc i) v m).is in
          let a = most u iu in
          let b = least v iv in
          let five = rule5 a.cell b.cell a.is b.is (siblings c i (suc i) u v a.cell b.cell (omega arith) h m a.is b.is a.under b.under) in
          record {
            ends = omega (arith, a.so, ends c i u v a.cell h m a.is a.under);
            starts = omega (arith, b.so, starts c i u v b.cell h m b.is b.under, near b.cell b.is);
            overlap = omega (arith, a.so, b.so, five, near b.cell b.is);
          }

      pub beside : Beside s (length t) al high low
      beside = record { each = λ v j. record { each = λ u i e n. at v u i j e n } }
        where
          placed : (c k v u : ℕ) → At (children t c) k v → Is t u → Is t v → (s u).first ≡ (s v).from → u ≢ v → Parted s al high low u v
          placed c zero v u h i j e n = absurd (n (first-once t sound g.spans u v i j (e ∙ g.spans.eldest c v h)))
          placed c (suc k) v u h i j e n =
              let w = get_or (children t c) k 0 in
              let m : At (children t c) k w = at_get_or (children t c) k 0 (omega (arith, at_less (children t c) (suc k) v h)) in
              let q : u ≡ w = first-once t sound g.spans u w i (child-read t c k w m).is (e ∙ g.spans.elder c k w v m h) in
              rw q (parted c k w v m h)

          at : (v u : ℕ) → Is t u → Is t v → (s u).first ≡ (s v).from → u ≢ v → Parted s al high low u v
          at zero u i j e n = absurd (n (first-once t sound g.spans u 0 i j (e ∙ g.spans.root_from)))
          at (suc m) u i j e n = let (k, o) = born (suc m) (omega arith) j in placed (parent t (suc m)) k (suc m) u o.place i j e n
