-- The rules in terms of children are the rules on the forest. Assumes nothing.
use Rattle.std.specs.Prelude.{ℕ, zero, suc, ◌+◌, ◌-◌, ◌≤◌, ◌<◌, List, [], ◌∷◌, ◌≡◌, refl, length}
use Rattle.std.proofs.Common.{ap, subst, ◌∙◌, inl, inr, arith, zero-add, add-zero}
use Rattle.std.proofs.Math.Decide.{dec_le, dec_lt}
use Rattle.plan.specs.Lists.{At}
use Rattle.plan.proofs.Laws.Lists.{at_less, at_same}
use Rattle.plan.specs.Plan.{Table, Sound, box_width, box_depth, children, place, row}
use Rattle.plan.proofs.Laws.Plan.{place-below}
use Rattle.plan.proofs.Laws.Paths.{Below, below_split, row-child}
use Rattle.contours.specs.Contour.{offset}
use Rattle.contours.specs.Sheet.{middle}
use Rattle.contours.proofs.Laws.Forest.{Forest, none, tree, count, traces, Grown, forest, grown, traces_are}
use Rattle.least.proofs.Laws.Natural.{Takes, Natural, Set}
use Rattle.least.proofs.Laws.ForestRules.{In, Fills, height, nth, S2, S3, Keeps, Spread, Ours}
use Rattle.least.proofs.Laws.Forest.{Within, keeps_within, not_in_none, not_fills_none, fills_in}
use Rattle.least.proofs.Laws.Kept.{kept}

-- siblings at their offsets, told one by one
spread-of : (t : Table) (al : ℕ) (x : ℕ → ℕ) (F : Forest) (b P X : ℕ) → ((m : ℕ) → m < count F → x (nth F m) + P ≡ b + offset al X (traces t al F) m) → Spread t al x b P X F
unfolding nth traces offset count
spread-of t al x none b P X h = tt
spread-of t al x (tree c ss r) b P X h = record { here = h 0 (omega arith); next = spread-of t al x r b P _ (λ m l. h (suc m) (omega arith)) }

grown_count : {t : Table} {cs : List ℕ} {F : Forest} → Grown t cs F → count F ≡ length cs
unfolding count
grown_count Grown.nil = refl
grown_count (Grown.cons a b) = ap suc (grown_count b)

grown_nth : {t : Table} {cs : List ℕ} {F : Forest} (m : ℕ) → Grown t cs F → m < count F → At cs m (nth F m)
unfolding count nth
grown_nth m Grown.nil l = absurd (omega arith)
grown_nth zero (Grown.cons a b) l = refl
grown_nth (suc m) (Grown.cons a b) l = grown_nth m b (omega arith)

module _ (t : Table) (sound : Sound t) where
  -- what is in the forest is below one of the siblings, and the other way
  in_grown : {a : ℕ} {cs : List ℕ} {F : Forest} → Grown t cs F → In F a → (i : ℕ) × (s : ℕ) × At cs i s × Below t a s
  in_grown Grown.nil p = absurd (not_in_none p)
  in_grown (Grown.cons {c = c} a b) In.top = (0, c, refl, Below.here)
  in_grown (Grown.cons {c = c} a b) (In.under p) = let (i, s, h, w) = in_grown a p in (0, c, refl, Below.down i s h w)
  in_grown (Grown.cons a b) (In.beside p) = let (i, s, h, w) = in_grown b p in (suc i, s, h, w)

  pub under_one : {c a : ℕ} {F : Forest} → Grown t (children t c) F → In (tree c F none) a → Below t a c
  under_one g In.top = Below.here
  under_one g (In.under p) = let (i, s, h, w) = in_grown g p in Below.down i s h w
  under_one g (In.beside p) = absurd (not_in_none p)

  grown_in : {a : ℕ} {cs : List ℕ} {F : Forest} (i : ℕ) {s : ℕ} → Grown t cs F → At cs i s → Below t a s → In F a
  grown_in i Grown.nil h w = absurd h
  grown_in zero (Grown.cons {c = c} g b) h w =
      elim (below_split (rw h at w)) [
        | inl e ↦ rw e In.top
        | inr q ↦ In.under (grown_in q.0 g q.2 q.3)
      ]
  grown_in (suc i) (Grown.cons g b) h w = In.beside (grown_in i b h w)

  pub one-under : {c a : ℕ} {F : Forest} → Grown t (children t c) F → Below t a c → In (tree c F none) a
  one-under g w = elim (below_split w) [ inl e ↦ rw e In.top | inr q ↦ In.under (grown_in q.0 g q.2 q.3) ]

  -- ---- rows: r is the row of the siblings
  abbrev Level : List ℕ → ℕ → Type 0
  Level cs r = (i s : ℕ) → At cs i s → row t s ≡ r

  below_row : {a c : ℕ} → Below t a c → row t c ≤ row t a
  below_row Below.here = omega arith
  below_row (Below.down {c = c} i s h w) = omega (arith, below_row w, row-child t sound c i s h)

  takes_low : {a ρ e : ℕ} → Takes t a ρ e → row t a ≤ ρ
  takes_low (Takes.box p q) = p
  takes_low (Takes.stem b w g h) = omega arith

  shallow : {a : ℕ} {cs : List ℕ} {F : Forest} → Grown t cs F → {r : ℕ} → Level cs r → In F a → row t a + box_depth t a < r + height t F
  unfolding height
  shallow Grown.nil l p = absurd (not_in_none p)
  shallow (Grown.cons {c = c} g b) l In.top = omega (arith, l 0 c refl)
  shallow (Grown.cons {c = c} g b) l (In.under p) = omega (arith, shallow g (λ i s h. row-child t sound c i s h) p, l 0 c refl)
  shallow (Grown.cons g b) l (In.beside p) = omega (arith, shallow b (λ i. l (suc i)) p)

  deepest : {cs : List ℕ} {F : Forest} → Grown t cs F → {r : ℕ} → Level cs r → (j : ℕ) → j < height t F → (b : ℕ) × In F b × (r + j ≤ row t b + box_depth t b)
  unfolding height
  deepest Grown.nil l j m = absurd (omega arith)
  deepest (Grown.cons {c = c} {r = r} g b) l j m =
      elim (dec_lt j (height t r)) [
        | yes p ↦ let (a, q, w) = deepest b (λ i. l (suc i)) j p in (a, In.beside q, w)
        | no p ↦ elim (dec_le j (box_depth t c)) [
          | yes q ↦ (c, In.top, omega (arith, l 0 c refl))
          | no q ↦ let (a, z, w) = deepest g (λ i s h. row-child t sound c i s h) (j - (box_depth t c + 1)) (omega arith) in (a, In.under z, omega (arith, l 0 c refl))
        ]
      ]

  fills_takes : {r j a e : ℕ} {cs : List ℕ} {F : Forest} → Grown t cs F → Level cs r → Fills t F j a e → Takes t a (r + j) e
  fills_takes Grown.nil l p = absurd (not_fills_none p)
  fills_takes {r = r} {j = j} (Grown.cons {c = c} g b) l (Fills.box p) =
      let e = l 0 c refl in Takes.box {a = c} {ρ = r + j} (omega arith) (omega arith)
  fills_takes {r = r} {j = j} (Grown.cons {c = c} g b) l (Fills.stem p q) =
      let e = l 0 c refl in
      let (a, z, w) = deepest g (λ i s h. row-child t sound c i s h) (j - (box_depth t c + 1)) (omega arith) in
      Takes.stem {a = c} {ρ = r + j} a (under_one g (In.under z)) (omega arith) (omega arith)
  fills_takes {r = r} {j = j} (Grown.cons {c = c} g b) l (Fills.under p q) =
      let e = l 0 c refl in
      let same : row t c + box_depth t c + 1 + (j - (box_depth t c + 1)) ≡ r + j = omega arith in
      rw same at (fills_takes {r = row t c + box_depth t c + 1} {j = j - (box_depth t c + 1)} g (λ i s h. row-child t sound c i s h) q)
  fills_takes (Grown.cons g b) l (Fills.beside p) = fills_takes b (λ i. l (suc i)) p

  takes_top : {c ρ e : ℕ} {F : Forest} (r : Forest) (j : ℕ) → Grown t (children t c) F → Takes t c ρ e → ρ ≡ row t c + j → Fills t (tree c F r) j c e
  takes_top {c} r j g (Takes.box p q) z = Fills.box {c = c} {j = j} (omega arith)
  takes_top {c} {F = F} r j g (Takes.stem a w m h) z =
      elim (below_split w) [
        | inl e ↦ absurd (let n = rw e at h in omega arith)
        | inr q ↦
            Fills.stem {c = c} {j = j} {ss = F} (omega arith) (omega (arith, shallow g (λ i s h. row-child t sound c i s h) (grown_in q.0 g q.2 q.3)))
      ]

  takes_fills : {r a ρ e : ℕ} {cs : List ℕ} {F : Forest} (j : ℕ) → Grown t cs F → Level cs r → In F a → Takes t a ρ e → ρ ≡ r + j → Fills t F j a e
  takes_fills j Grown.nil l p q z = absurd (not_in_none p)
  takes_fills j (Grown.cons {c = c} {r = r} g b) l In.top q z = takes_top r j g q (omega (arith, l 0 c refl))
  takes_fills {r = r} j (Grown.cons {c = c} g b) l (In.under p) q z =
      let e = l 0 c refl in
      let (i, s, h, w) = in_grown g p in
      let m = below_row w in
      let n = row-child t sound c i s h in
      let o = takes_low q in
      let d : box_depth t c < j = omega arith in
      Fills.under d (takes_fills {r = row t c + box_depth t c + 1} (j - (box_depth t c + 1)) g (λ i s h. row-child t sound c i s h) p q (omega arith))
  takes_fills j (Grown.cons g b) l (In.beside p) q z = Fills.beside (takes_fills j b (λ i. l (suc i)) p q z)

  lone_level : (c : ℕ) → Level (c ∷ []) (row t c)
  lone_level c zero s h = ap (row t) h
  lone_level c (suc i) s h = absurd h

  -- from the rules to the tree
  module _ (al : ℕ) (x : ℕ → ℕ) (rules : Natural t al x) where
    s2_tree : (c : ℕ) (F : Forest) → Grown t (children t c) F → S2 t al x c F
    s2_tree c F g l =
        rules.s2 c _ (subst (λ m. At (children t c) m (nth F (place t c (count F)))) (ap (place t c) (grown_count g)) (grown_nth (place t c (count F)) g (place-below t c (count F) l)))

    s3_tree : (f o c : ℕ) (F : Forest) {r : Forest} {cs : List ℕ} → At (children t f) o c → ((i s : ℕ) → At cs i s → At (children t f) (suc o + i) s)
        → Grown t (children t c) F → Grown t cs r → S3 t al x c F r
    s3_tree f o c F h hit g Grown.nil = tt
    s3_tree f o c F h hit g (Grown.cons {c = d} a b) =
        let n = rw add-zero at (hit 0 d refl) in
        record { ends = λ a w. rules.s3_ends f o c d a h n (under_one g w); starts = λ b w. rules.s3_starts f o c d b h n (under_one a w) }

    rules_keeps : {cs : List ℕ} {F : Forest} (f o : ℕ) → ((i s : ℕ) → At cs i s → At (children t f) (o + i) s) → Grown t cs F → Keeps t al x F
    rules_keeps f o h Grown.nil = tt
    rules_keeps f o h (Grown.cons {c = c} {cs = cs} {F = F} {r = r} g b) =
        let n = rw add-zero at (h 0 c refl) in
        let hit : (i s : ℕ) → At cs i s → At (children t f) (suc o + i) s = λ i s a. let e : o + suc i ≡ suc o + i = omega arith in rw e at (h (suc i) s a) in
        record {
          s2 = s2_tree c F g;
          s3 = s3_tree f o c F n hit g b;
          s4 = λ j a e v w p q.
              let (i, s, z, u) = in_grown b (fills_in q) in
              rules.s4 f o (suc o + i) c s a v (row t c + j) e w n (hit i s z) (omega arith) (under_one g (fills_in p)) u
              (fills_takes (Grown.cons g Grown.nil) (lone_level c) p)
              (fills_takes b (λ i s a. omega (arith, row-child t sound f (suc o + i) s (hit i s a), row-child t sound f o c n)) q);
          s5 = λ a v p q.
              let (i, s, z, u) = in_grown b q in
              rules.s5 f o (suc o + i) c s a v n (hit i s z) (omega arith) (under_one g p) u;
          children = rules_keeps c 0 (λ i s a. rw zero-add a) g;
          rest = rules_keeps f (suc o) hit b;
        }

    pub tree_keeps : (c : ℕ) (F : Forest) → Grown t (children t c) F → Keeps t al x (tree c F none)
    tree_keeps c F g =
        record {
          s2 = s2_tree c F g;
          s3 = tt;
          s4 = λ j a e v w p q. absurd (not_fills_none q);
          s5 = λ a v p q. absurd (not_in_none q);
          children = rules_keeps c 0 (λ i s a. rw zero-add a) g;
          rest = tt;
        }

  -- what stands after place i
  record Rest (cs ds : List ℕ) (i : ℕ) : Type 0 where
    on : (j m q : ℕ) → m ≡ suc (i + j) → At cs m q → At ds j q
    back : (j q : ℕ) → At ds j q → At cs (suc (i + j)) q

  rest-first : (c : ℕ) (cs : List ℕ) → Rest (c ∷ cs) cs 0
  rest-first c cs = record { on = go; back = λ j q a. rw zero-add a }
    where
      go : (j m q : ℕ) → m ≡ suc (0 + j) → At (c ∷ cs) m q → At cs j q
      go j zero q e a = absurd (omega arith)
      go j (suc m) q e a = let z : m ≡ j = omega arith in rw z at a

  rest_more : {cs ds : List ℕ} (c i : ℕ) → Rest cs ds i → Rest (c ∷ cs) ds (suc i)
  rest_more {cs} {ds} c i r = record { on = go; back = λ j q a. let e : suc i + j ≡ suc (i + j) = omega arith in rw e (r.back j q a) }
    where
      go : (j m q : ℕ) → m ≡ suc (suc i + j) → At (c ∷ cs) m q → At ds j q
      go j zero q e a = absurd (omega arith)
      go j (suc m) q e a = r.on j m q (omega arith) a

  locate_in : {s : ℕ} {cs : List ℕ} {F : Forest} (i : ℕ) → Grown t cs F → At cs i s
      → (G : Forest) × (r : Forest) × (ds : List ℕ) × Within (tree s G r) F × Grown t (children t s) G × Grown t ds r × Rest cs ds i
  locate_in i Grown.nil h = absurd h
  locate_in zero (Grown.cons {c = c} {cs = cs} {F = F} {r = r} g b) h = rw h (F, r, cs, Within.self, g, b, rest-first c cs)
  locate_in (suc i) (Grown.cons {c = c} g b) h =
      let (G, r, ds, w, u, v, z) = locate_in i b h in (G, r, ds, Within.beside w, u, v, rest_more c i z)

  -- sibling number i, its children, and the next sibling with its own
  pub pair_in : {cs : List ℕ} {F : Forest} (i p q : ℕ) → Grown t cs F → At cs i p → At cs (suc i) q → (G : Forest) × (H : Forest) × (r : Forest) × Within (tree p G (tree q H r)) F
  pair_in i p q g h k = let (G, r, ds, w, u, v, o) = locate_in i g h in second v (o.on 0 (suc i) q (omega arith) k) w
    where
      second : {G F r : Forest} {ds : List ℕ} → Grown t ds r → At ds 0 q → Within (tree p G r) F → (G : Forest) × (H : Forest) × (r : Forest) × Within (tree p G (tree q H r)) F
      second Grown.nil h w = absurd h
      second {G} (Grown.cons {F = H} {r = r} a b) h w = (G, H, r, rw h w)

  -- the other way, where the rules are kept on the forest of each parent
  module _ (al : ℕ) (x : ℕ → ℕ) (keeps : (f : ℕ) (F : Forest) → Grown t (children t f) F → Keeps t al x (tree f F none)) where
    s2_rule : (c s : ℕ) → At (children t c) (place t c (length (children t c))) s → x c ≡ x s
    s2_rule c s a =
        let G = forest t (length t) c in
        let g = grown t sound c in
        let e = grown_count g in
        let l = at_less (children t c) _ s a in
        let m = place t c (count G) in
        let z : At (children t c) m s = rw e a in
        let n : m < count G = place-below t c (count G) (omega arith) in
        (keeps c G g).s2 (omega arith) ∙ ap x (at_same (children t c) m (nth G m) s (grown_nth m g n) z)

    -- sibling number i of the children of f, with its children and the siblings after it
    found : (f i p : ℕ) → At (children t f) i p
        → (G : Forest) × (r : Forest) × (ds : List ℕ) × Within (tree p G r) (forest t (length t) f) × Keeps t al x (forest t (length t) f) × Grown t (children t p) G × Grown t ds r × Rest (children t f) ds i
    found f i p a =
        let (G, r, ds, w, u, z, o) = locate_in i (grown t sound f) a in
        (G, r, ds, w, (keeps f (forest t (length t) f) (grown t sound f)).children, u, z, o)

    s3_rule : (p q : ℕ) (G : Forest) {r : Forest} {ds : List ℕ} → S3 t al x p G r → Grown t (children t p) G → Grown t ds r → At ds 0 q
        → ((a : ℕ) → Below t a p → x a + box_width t a < x q) × ((b : ℕ) → Below t b q → x p < x b)
    s3_rule p q G h g Grown.nil z = absurd z
    s3_rule p q G h g (Grown.cons a b) z = (λ c w. rw z (h.ends c (one-under g w)), (λ c w. h.starts c (one-under a (rw z at w))))

    next : (f i p q : ℕ) → At (children t f) i p → At (children t f) (suc i) q
        → ((a : ℕ) → Below t a p → x a + box_width t a < x q) × ((b : ℕ) → Below t b q → x p < x b)
    next f i p q a b =
        let (G, r, ds, w, k, u, z, o) = found f i p a in
        s3_rule p q G (keeps_within t al x w k).s3 u z (o.on 0 (suc i) q (omega arith) b)

    s4_rule : (f i j p q a b ρ d e : ℕ) → At (children t f) i p → At (children t f) j q → i < j → Below t a p → Below t b q
        → Takes t a ρ d → Takes t b ρ e → x a + d < x b
    s4_rule f i j p q a b ρ d e h g l v w s hit =
        let (G, r, ds, m, k, u, z, o) = found f i p h in
        let c = o.on (j - suc i) j q (omega arith) g in
        let low = takes_low s in
        let high = below_row v in
        (keeps_within t al x m k).s4 (ρ - row t p) a d b e
        (takes_fills (ρ - row t p) (Grown.cons u Grown.nil) (lone_level p) (one-under u v) s (omega arith))
        (takes_fills {r = row t p} (ρ - row t p) z (λ j n c. omega (arith, row-child t sound f i p h, row-child t sound f _ n (o.back j n c))) (grown_in (j - suc i) z c w) hit (omega arith))

    s5_rule : (f i j p q a b : ℕ) → At (children t f) i p → At (children t f) j q → i < j → Below t a p → Below t b q → x a + box_width t a + 1 ≤ x b + al
    s5_rule f i j p q a b h g l v w =
        let (G, r, ds, m, k, u, z, o) = found f i p h in
        (keeps_within t al x m k).s5 a b (one-under u v) (grown_in (j - suc i) z (o.on (j - suc i) j q (omega arith) g) w)

    keeps_rules : Natural t al x
    keeps_rules =
        record {
          s2 = s2_rule;
          s3_ends = λ f i p q a h g w. (next f i p q h g).0 a w;
          s3_starts = λ f i p q b h g w. (next f i p q h g).1 b w;
          s4 = s4_rule;
          s5 = s5_rule;
        }

  -- our sheet, told child by child, is our sheet on the forest, and keeps the rules
  module _ (al : ℕ) (x : ℕ → ℕ) (set : Set t al x) where
    spread-children : (c : ℕ) (F : Forest) → Grown t (children t c) F → Spread t al x (x c) (middle t al c (traces t al F)) 0 F
    spread-children c F g = spread-of t al x F (x c) _ 0 (λ m l. rw (traces_are t sound al c g) (set c m (nth F m) (grown_nth m g l)))

    ours_grown : {cs : List ℕ} {F : Forest} → Grown t cs F → Ours t al x F
    ours_grown Grown.nil = tt
    ours_grown (Grown.cons {c = c} {F = F} g b) = record { spread = spread-children c F g; children = ours_grown g; rest = ours_grown b }

    pub ours-tree : (c : ℕ) (F : Forest) → Grown t (children t c) F → Ours t al x (tree c F none)
    ours-tree c F g = record { spread = spread-children c F g; children = ours_grown g; rest = tt }

    pub ours_rules : Natural t al x
    ours_rules = keeps_rules al x (λ f F g. kept t al x (tree f F none) (x f) 0 0 (record { here = refl; next = tt }) (ours-tree f F g))
