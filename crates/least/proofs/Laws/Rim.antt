-- S1 to S5 over whole numbers are S1 and the rules over natural numbers, x moved up so that none is negative. Assumes nothing.
use Rattle.std.specs.Prelude.{ℕ, suc, ◌+◌, ◌≤◌, ◌<◌, ◌≡◌, ◌⊎◌, length, ℤ, ◌+ℤ◌, ◌-ℤ◌, ◌≤ℤ◌, ◌<ℤ◌}
use Rattle.std.proofs.Math.Path.{refl, ap}
use Rattle.std.proofs.Common.{◌∙◌, arith}
use Rattle.std.proofs.Math.Logic.{inl, inr}
use Rattle.std.proofs.Math.Dec.{T}
use Rattle.std.proofs.Math.IntN.{pos}
use Rattle.whole.specs.Whole.{plus, minus}
use Rattle.whole.proofs.Laws.Whole.{whole, narrow, sum}
use Rattle.whole.specs.Bias.{bias}
use Rattle.whole.proofs.Laws.Bias.{bound, bounded, bias_eq, bias_lt, bias_lt_add, bias_allow}
use Rattle.plan.specs.Lists.{At}
use Rattle.plan.proofs.Laws.Lists.{at_less, at_same}
use Rattle.plan.specs.Plan.{Table, Is, Sound, box_width, box_depth, children, place, within, subtree, next, earlier, row}
use Rattle.plan.proofs.Laws.Plan.{child-read, appointed-at, subtree-read, subtree_show}
use Rattle.plan.proofs.Laws.Paths.{Below, below_split, below-within, within-below, below-is, child_less}
use Rattle.plan.proofs.Laws.Siblings.{Neighbours, Earlier, says_next, says_earlier, next-is}
use Rattle.rules.specs.Placement.{Placement, right, base, bottom, Box, Stem}
use Rattle.rules.specs.Rules.{S1, Keeps}
use Rattle.rules.proofs.Laws.Extremes.{most-all, most-one}
use Rattle.rules.proofs.Laws.Extents.{y-row, base-row}
use Rattle.least.proofs.Laws.Natural.{Takes, Natural}

-- ---- the rows of boxes and stems
module _ (t : Table) (sound : Sound t) (p : Placement) (s1 : S1 t p) where
  abbrev On : ℕ → ℕ → ℕ → Type 0
  On a ρ e = ((e ≡ box_width t a) × Box t p a (pos ρ)) ⊎ ((e ≡ 0) × Stem t p a (pos ρ))

  takes_on : {a ρ e : ℕ} → Is t a → Takes t a ρ e → On a ρ e
  unfolding bottom
  takes_on i (Takes.box {a = a} h k) = inl (refl, record { top = omega (whole, y-row t p sound s1 a i); low = omega (whole, base-row t p sound s1 a i) })
  takes_on i (Takes.stem {a = a} {ρ = ρ} b w h k) =
      let j : Is t b = below-is t sound i w in
      inr (
        refl,
        record {
          bears = elim (below_split w) [ inl e ↦ absurd (let n = rw e at k in omega arith) | inr q ↦ omega (arith, at_less (children t a) q.0 q.1 q.2) ];
          top = omega (whole, base-row t p sound s1 a i, sum (base t p a) (pos 1));
          low = low b j (most-all (base t p) (base t p a) (subtree t a) b (subtree_show t a b j (below-within t sound w))) k;
        },
      )
    where
      low : (b : ℕ) → Is t b → base t p b ≤ℤ bottom t p a → ρ ≤ row t b + box_depth t b → pos ρ ≤ℤ bottom t p a
      low b j h k = omega (whole, base-row t p sound s1 b j)

  box_takes : (a : ℕ) (ρ : ℤ) → Is t a → Box t p a ρ → Takes t a (plus ρ) (box_width t a)
  box_takes a ρ i h = Takes.box {a = a} {ρ = plus ρ} (omega (whole, y-row t p sound s1 a i, narrow ρ)) (omega (whole, y-row t p sound s1 a i, base-row t p sound s1 a i, narrow ρ))

  stem_takes : (a : ℕ) (ρ : ℤ) → Is t a → Stem t p a ρ → Takes t a (plus ρ) 0
  unfolding bottom
  stem_takes a ρ i h =
      let (b, j, w, k) = most-one (base t p) (base t p a) (subtree t a) (λ z. ρ ≤ℤ z → (b : ℕ) × Is t b × Below t b a × (ρ ≤ℤ base t p b))
      (λ k. (a, i, Below.here, k)) (λ b m k. (b, (subtree-read t a b m).0, within-below t sound a b (subtree-read t a b m).0 (subtree-read t a b m).1, k)) h.low in
      Takes.stem {a = a} {ρ = plus ρ} b w (omega (whole, base-row t p sound s1 a i, sum (base t p a) (pos 1), narrow ρ)) (omega (whole, base-row t p sound s1 a i, sum (base t p a) (pos 1), base-row t p sound s1 b j, narrow ρ))

  on_takes : (a : ℕ) (ρ : ℤ) → Is t a → Box t p a ρ ⊎ Stem t p a ρ → (e : ℕ) × Takes t a (plus ρ) e
  on_takes a ρ i (inl h) = (box_width t a, box_takes a ρ i h)
  on_takes a ρ i (inr h) = (0, stem_takes a ρ i h)

-- ---- the rules
module _ (t : Table) (sound : Sound t) (p : Placement) (B al : ℕ) (fits : (c : ℕ) → Is t c → minus (p.x c) ≤ B) where
  abbrev X : ℕ → ℕ
  X c = bias B (p.x c)

  neighbours : (f i u v : ℕ) → At (children t f) i u → At (children t f) (suc i) v → T (next t u v)
  neighbours f i u v h g = (says_next t u v).show (record { c = f; order = record { i = i; first = h; second = g } })

  older : (f i j u v a b : ℕ) → At (children t f) i u → At (children t f) j v → i < j → Below t a u → Below t b v → T (earlier t a b)
  older f i j u v a b h g l wa wb =
      (says_earlier t a b).show (record {
        p = u;
        q = v;
        elder = record { c = f; order = record { i = i; j = j; less = l; first = h; second = g } };
        a_under = below-within t sound wa;
        b_under = below-within t sound wb;
      })

  under : (f i u a : ℕ) → At (children t f) i u → Below t a u → Is t a
  under f i u a h w = below-is t sound (child-read t f i u h).is w

  pub keeps_natural : Keeps t p al → Natural t al X
  unfolding right
  keeps_natural k =
      record {
        s2 = λ c s a.
            let l = at_less (children t c) (place t c (length (children t c))) s a in
            let (m, i) = child_less t sound c _ s a in
            ap (bias B) (k.s2.flush c (omega arith) (omega arith) ∙ ap p.x (at_same (children t c) _ _ s (appointed-at t c (omega arith)) a));
        s3_ends = λ f i u v a h g w.
            (bias_lt_add B (p.x a) (p.x v) (fits a (under f i u a h w)) (fits v (child-read t f (suc i) v g).is) (box_width t a)).0
            (k.s3.ends u v (neighbours f i u v h g) a (under f i u a h w) (below-within t sound w));
        s3_starts = λ f i u v b h g w.
            (bias_lt B (p.x u) (p.x b) (fits u (child-read t f i u h).is) (fits b (under f (suc i) v b g w))).0
            (k.s3.starts u v (neighbours f i u v h g) b (under f (suc i) v b g w) (below-within t sound w));
        s4 = λ f i j u v a b ρ d e h g l wa wb ta tb.
            let ia = under f i u a h wa in
            let ib = under f j v b g wb in
            s4 a b ρ d e ia ib (older f i j u v a b h g l wa wb) (takes_on t sound p k.s1 ia ta) (takes_on t sound p k.s1 ib tb);
        s5 = λ f i j u v a b h g l wa wb.
            let ia = under f i u a h wa in
            let ib = under f j v b g wb in
            (bias_allow B (p.x a) (p.x b) (fits a ia) (fits b ib) (box_width t a) al).0 (k.s5.overlap a b ia ib (older f i j u v a b h g l wa wb));
      }
    where
      either : (b ρ e : ℕ) → On t sound p k.s1 b ρ e → Box t p b (pos ρ) ⊎ Stem t p b (pos ρ)
      either b ρ e (inl h) = inl h.1
      either b ρ e (inr h) = inr h.1

      s4 : (a b ρ d e : ℕ) → Is t a → Is t b → T (earlier t a b) → On t sound p k.s1 a ρ d → On t sound p k.s1 b ρ e → X a + d < X b
      s4 a b ρ d e i j o (inl h) g =
          rw h.0 ((bias_lt_add B (p.x a) (p.x b) (fits a i) (fits b j) (box_width t a)).0 (k.s4.box a b i j o (pos ρ) h.1 (either b ρ e g)))
      s4 a b ρ d e i j o (inr h) g =
          omega (arith, h.0, (bias_lt B (p.x a) (p.x b) (fits a i) (fits b j)).0 (k.s4.stem a b i j o (pos ρ) h.1 (either b ρ e g)))

  pub natural_keeps : S1 t p → Natural t al X → Keeps t p al
  unfolding right
  natural_keeps s1 n =
      record {
        s1 = s1;
        s2 = record { flush = λ c i h. (bias_eq B (p.x c) _ (fits c i) (fits _ (child-read t c _ _ (appointed-at t c h)).is)).1 (n.s2 c _ (appointed-at t c h)) };
        s3 = record { ends = ends; starts = starts };
        s4 = record {
          box = λ a b i j e ρ h q. (bias_lt_add B (p.x a) (p.x b) (fits a i) (fits b j) (box_width t a)).1 (s4 a b i j e ρ (box_width t a) (box_takes t sound p s1 a ρ i h) (on_takes t sound p s1 b ρ j q));
          stem = λ a b i j e ρ h q. (bias_lt B (p.x a) (p.x b) (fits a i) (fits b j)).1 (let z = s4 a b i j e ρ 0 (stem_takes t sound p s1 a ρ i h) (on_takes t sound p s1 b ρ j q) in omega arith);
        };
        s5 = record { overlap = overlap };
      }
    where
      ends : (u v : ℕ) → T (next t u v) → (a : ℕ) → Is t a → T (within t u a) → (p.x a +ℤ pos (box_width t a)) <ℤ p.x v
      ends u v h a i w =
          let e : Neighbours t u v = (says_next t u v).read h in
          (bias_lt_add B (p.x a) (p.x v) (fits a i) (fits v (next-is t u v h).1) (box_width t a)).1
          (n.s3_ends e.c e.order.i u v a e.order.first e.order.second (within-below t sound u a i w))

      starts : (u v : ℕ) → T (next t u v) → (b : ℕ) → Is t b → T (within t v b) → p.x u <ℤ p.x b
      starts u v h b i w =
          let e : Neighbours t u v = (says_next t u v).read h in
          (bias_lt B (p.x u) (p.x b) (fits u (next-is t u v h).0) (fits b i)).1
          (n.s3_starts e.c e.order.i u v b e.order.first e.order.second (within-below t sound v b i w))

      s4 : (a b : ℕ) → Is t a → Is t b → T (earlier t a b) → (ρ : ℤ) (d : ℕ) → Takes t a (plus ρ) d → (e : ℕ) × Takes t b (plus ρ) e → X a + d < X b
      s4 a b i j h ρ d ta (e, tb) =
          let o : Earlier t a b = (says_earlier t a b).read h in
          n.s4 o.elder.c o.elder.order.i o.elder.order.j o.p o.q a b (plus ρ) d e o.elder.order.first o.elder.order.second o.elder.order.less
          (within-below t sound o.p a i o.a_under) (within-below t sound o.q b j o.b_under) ta tb

      overlap : (a b : ℕ) → Is t a → Is t b → T (earlier t a b) → (p.x a +ℤ pos (box_width t a) -ℤ p.x b +ℤ pos 1) ≤ℤ pos al
      overlap a b i j h =
          let o : Earlier t a b = (says_earlier t a b).read h in
          (bias_allow B (p.x a) (p.x b) (fits a i) (fits b j) (box_width t a) al).1
          (n.s5 o.elder.c o.elder.order.i o.elder.order.j o.p o.q a b o.elder.order.first o.elder.order.second o.elder.order.less
          (within-below t sound o.p a i o.a_under) (within-below t sound o.q b j o.b_under))

-- x moved up by what is enough for the cells of the table
abbrev pub raised : Table → Placement → ℕ → ℕ
raised t p c = bias (bound p.x (length t)) (p.x c)

pub raised-fits : (t : Table) (p : Placement) (c : ℕ) → Is t c → minus (p.x c) ≤ bound p.x (length t)
raised-fits t p = bounded p.x (length t)
