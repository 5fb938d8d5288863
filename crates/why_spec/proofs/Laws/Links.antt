-- A link is what its rule asks, no more and no less: it holds of whoever keeps the rules, and who has all links keeps S2 to S5. Assumes nothing.
use mathlib.Core.List.{List, [], ◌∷◌}
use Rattle.std.specs.Prelude.{◌≡◌, refl, ◌⊎◌, T, ℤ, ◌+ℤ◌, ◌-ℤ◌, ◌≤ℤ◌, ◌<ℤ◌}
use Rattle.std.proofs.Math.Path.{ap}
use Rattle.std.proofs.Common.{◌∙◌}
use Rattle.std.proofs.Math.Logic.{inl, inr}
use Prim.Native.Nat.{ℕ, zero, suc, ◌+◌, ◌≤◌, ◌<◌, max}
use native.Mathlib.Omega.{arith}
use Rattle.std.proofs.Math.Decide.{dec_le}
use Rattle.std.proofs.Math.ListN.{length}
use Rattle.std.proofs.Math.IntN.{pos}
use Rattle.whole.proofs.Laws.Whole.{whole, sum, diff}
use Rattle.plan.proofs.Laws.Lists.{at_less, peak-all, peak-one}
use Rattle.plan.specs.Plan.{Table, Is, Sound, box_width, box_depth, kind, children, child, appointed, within, row, dictated_bottom, earlier, subtree}
use Rattle.plan.proofs.Laws.Plan.{child-read, appointed-at, subtree-read, subtree_show}
use Rattle.plan.proofs.Laws.Paths.{row-child, below_split, within-below, within-self, within-child}
use Rattle.plan.proofs.Laws.Siblings.{next-is}
use Rattle.rules.specs.Placement.{Placement, right, base, Box, Stem}
use Rattle.rules.specs.Rules.{S1, Keeps}
use Rattle.rules.proofs.Laws.Extents.{y-row, base-row, bottom-row}
use Rattle.why_spec.specs.Links.{Link, Justified, Chain, adds_up}
use Rattle.why_spec.proofs.Laws.Asked.{Flush, BoxMeets, StemMeets, Asked, says_asks}

module _ (t : Table) where
  -- ---- rows
  module _ (sound : Sound t) where
    pub bottom_low : (a : ℕ) → Is t a → row t a + box_depth t a ≤ dictated_bottom t a
    unfolding dictated_bottom
    bottom_low a i = peak-all (λ b. row t b + box_depth t b) (subtree t a) a (subtree_show t a a i (within-self t sound a))

    pub bottom-child : (a : ℕ) → 1 ≤ length (children t a) → row t a + box_depth t a + 1 ≤ dictated_bottom t a
    unfolding dictated_bottom
    bottom-child a h =
        let s = child t a (appointed (kind t a) (length (children t a))) in
        let m = appointed-at t a h in
        let c = child-read t a _ s m in
        omega (
          arith,
          row-child t sound a _ s m,
          peak-all (λ b. row t b + box_depth t b) (subtree t a) s (subtree_show t a s c.is (within-child t sound a s s c (within-self t sound s))),
        )

    pub bears : (a : ℕ) → row t a + box_depth t a < dictated_bottom t a → 1 ≤ length (children t a)
    unfolding dictated_bottom
    bears a =
        peak-one (λ b. row t b + box_depth t b) (λ n. row t a + box_depth t a < n → 1 ≤ length (children t a)) (subtree t a) (λ h. absurd (omega arith)) (λ b m h.
        let (i, w) = subtree-read t a b m in
        elim (below_split (within-below t sound a b i w)) [
          | inl e ↦ absurd (let k = rw e at h in omega arith)
          | inr q ↦ omega (arith, at_less (children t a) q.0 q.1 q.2)
        ])

-- ---- the rows of a placement that keeps S1
module _ (t : Table) (sound : Sound t) (p : Placement) (s1 : S1 t p) where
  abbrev On : ℕ → ℤ → Type 0
  On b ρ = Box t p b ρ ⊎ Stem t p b ρ

  on_row : (b ρ : ℕ) → Is t b → row t b ≤ ρ → ρ ≤ dictated_bottom t b → On b (pos ρ)
  on_row b ρ i h k =
      elim (dec_le ρ (row t b + box_depth t b)) [
        | yes q ↦ inl (record { top = omega (whole, y-row t p sound s1 b i); low = omega (whole, base-row t p sound s1 b i) })
        | no q ↦ inr (record {
          bears = bears t sound b (omega arith);
          top = omega (whole, base-row t p sound s1 b i, sum (base t p b) (pos 1));
          low = omega (whole, bottom-row t p sound s1 b i);
        })
      ]

  row_on : (b : ℕ) (ρ : ℤ) → Is t b → On b ρ → (pos (row t b) ≤ℤ ρ) × (ρ ≤ℤ pos (dictated_bottom t b))
  row_on b ρ i (inl h) =
      (omega (whole, h.top, y-row t p sound s1 b i), omega (whole, h.low, base-row t p sound s1 b i, bottom_low t sound b i))
  row_on b ρ i (inr h) =
      (omega (whole, h.top, sum (base t p b) (pos 1), base-row t p sound s1 b i), omega (whole, h.low, bottom-row t p sound s1 b i))

-- ---- a link holds of whoever keeps the rules
module _ (t : Table) (sound : Sound t) (al : ℕ) (p : Placement) where
  abbrev pub Held : ℕ → ℕ → ℤ → Type 0
  Held a b d = (p.x a +ℤ d) ≤ℤ p.x b

  module _ (keeps : Keeps t p al) where
    flush_held : (a b : ℕ) → Is t a → Flush t a b → p.x a ≡ p.x b
    flush_held a b i f = keeps.s2.flush a i f.0 ∙ ap p.x f.1

    box_held : (a b : ℕ) → Is t a → Is t b → T (earlier t a b) → BoxMeets t a b → right t p a <ℤ p.x b
    box_held a b i j e (h, k) =
        let ρ = max (row t a) (row t b) in
        let s1 = keeps.s1 in
        keeps.s4.box a b i j e (pos ρ)
        (record { top = omega (whole, y-row t p sound s1 a i); low = omega (whole, base-row t p sound s1 a i) })
        (on_row t sound p s1 b ρ j (omega arith) (omega (arith, bottom_low t sound b j)))

    stem_held : (a b : ℕ) → Is t a → Is t b → T (earlier t a b) → StemMeets t a b → p.x a <ℤ p.x b
    stem_held a b i j e (f, (h, k)) =
        let ρ = max (row t a + box_depth t a + 1) (row t b) in
        let s1 = keeps.s1 in
        keeps.s4.stem a b i j e (pos ρ)
        (record {
          bears = f;
          top = omega (whole, base-row t p sound s1 a i, sum (base t p a) (pos 1));
          low = omega (whole, bottom-row t p sound s1 a i, bottom-child t sound a f);
        })
        (on_row t sound p s1 b ρ j (omega arith) (omega (arith, bottom_low t sound b j)))

    edge : (a b : ℕ) (d : ℤ) → d ≡ pos (box_width t a + 1) → right t p a <ℤ p.x b → Held a b d
    unfolding right
    edge a b d e h = omega (whole, sum (p.x a) (pos (box_width t a)), sum (p.x a) d)

    begin : (a b : ℕ) (d : ℤ) → d ≡ pos 1 → p.x a <ℤ p.x b → Held a b d
    begin a b d e h = omega (whole, sum (p.x a) d)

    asked_held : (r a b : ℕ) (d : ℤ) → Is t a → Is t b → Asked t al r a b d → Held a b d
    unfolding right within
    asked_held zero a b d i j h = absurd h
    asked_held (suc zero) a b d i j h = absurd h
    asked_held (suc (suc zero)) a b d i j h =
        elim h.1 [
          | inl f ↦ omega (whole, h.0, flush_held a b i f, sum (p.x a) d)
          | inr f ↦ omega (whole, h.0, flush_held b a j f, sum (p.x a) d)
        ]
    asked_held (suc (suc (suc zero))) a b d i j h =
        elim h [
          | inl k ↦ edge a b d k.0 (keeps.s3.ends k.1.at b k.1.passes a i k.1.there)
          | inr k ↦ begin a b d k.0 (keeps.s3.starts a k.1.at k.1.passes b j k.1.there)
        ]
    asked_held (suc (suc (suc (suc zero)))) a b d i j h =
        elim h [
          | inl k ↦ edge a b d k.0 (box_held a b i j k.1.0 k.1.1)
          | inr k ↦ begin a b d k.0 (stem_held a b i j k.1.0 k.1.1)
        ]
    asked_held (suc (suc (suc (suc (suc zero))))) a b d i j h =
        omega (
          whole,
          h.0,
          keeps.s5.overlap a b i j h.1,
          diff (pos (box_width t a + 1)) (pos al),
          sum (p.x a) d,
          sum (p.x a) (pos (box_width t a)),
          diff (p.x a +ℤ pos (box_width t a)) (p.x b),
          sum (p.x a +ℤ pos (box_width t a) -ℤ p.x b) (pos 1),
        )
    asked_held (suc (suc (suc (suc (suc (suc r)))))) a b d i j h = absurd h

    pub link_true : (l : Link) → Justified t al l → Held l.from l.to l.apart
    link_true l j = asked_held l.rule l.from l.to l.apart j.from_is j.to_is ((says_asks t al l.rule l.from l.to l.apart).read j.asked)

    pub chain_bounds : (c : ℕ) (ls : List Link) (e : ℕ) → Chain t al c ls e → Held c e (adds_up ls)
    unfolding adds_up
    chain_bounds c [] e h = omega (whole, ap p.x h, sum (p.x c) (pos 0))
    chain_bounds c (l ∷ ls) e (f, j, h) =
        omega (
          whole,
          ap p.x f,
          link_true l j,
          chain_bounds l.to ls e h,
          sum (p.x l.from) l.apart,
          sum (p.x l.to) (adds_up ls),
          sum l.apart (adds_up ls),
          sum (p.x c) (l.apart +ℤ adds_up ls),
        )

  -- ---- and who has all links keeps the rules
  module _ (s1 : S1 t p) (all : (l : Link) → Justified t al l → Held l.from l.to l.apart) where
    held : (r a b : ℕ) (d : ℤ) → Is t a → Is t b → Asked t al r a b d → Held a b d
    held r a b d i j h =
        all (record { rule = r; from = a; to = b; apart = d }) (record { from_is = i; to_is = j; asked = (says_asks t al r a b d).show h })

    pub links-enough : Keeps t p al
    unfolding right within
    links-enough =
        record {
          s1 = s1;
          s2 = record {
            flush = λ c i h.
                let s = child t c (appointed (kind t c) (length (children t c))) in
                let j = (child-read t c _ s (appointed-at t c h)).is in
                omega (
                  whole,
                  held 2 c s (pos 0) i j (refl, inl (h, refl)),
                  held 2 s c (pos 0) j i (refl, inr (h, refl)),
                  sum (p.x c) (pos 0),
                  sum (p.x s) (pos 0),
                );
          };
          s3 = record {
            ends = λ u v n a i w. edge_lt a v (held 3 a v _ i (next-is t u v n).1 (inl (refl, record { at = u; there = w; passes = n })));
            starts = λ u v n b j w. begin_lt u b (held 3 u b _ (next-is t u v n).0 j (inr (refl, record { at = v; there = w; passes = n })));
          };
          s4 = record {
            box = λ a b i j e ρ h k.
                let (lo, hi) = row_on t sound p s1 b ρ j k in
                edge_lt a b (held 4 a b _ i j (inl (refl, (e, (omega (whole, h.top, h.low, y-row t p sound s1 a i), omega (whole, h.top, h.low, base-row t p sound s1 a i))))));
            stem = λ a b i j e ρ h k.
                let (lo, hi) = row_on t sound p s1 b ρ j k in
                begin_lt a b (held 4 a b _ i j (inr (refl, (e, (h.bears, (omega (whole, h.top, base-row t p sound s1 a i, sum (base t p a) (pos 1)), omega (whole, h.low, bottom-row t p sound s1 a i)))))));
          };
          s5 = record {
            overlap = λ a b i j e.
                omega (
                  whole,
                  held 5 a b _ i j (refl, e),
                  diff (pos (box_width t a + 1)) (pos al),
                  sum (p.x a) (pos (box_width t a + 1) -ℤ pos al),
                  sum (p.x a) (pos (box_width t a)),
                  diff (p.x a +ℤ pos (box_width t a)) (p.x b),
                  sum (p.x a +ℤ pos (box_width t a) -ℤ p.x b) (pos 1),
                );
          };
        }
      where
        edge_lt : (a b : ℕ) → Held a b (pos (box_width t a + 1)) → (p.x a +ℤ pos (box_width t a)) <ℤ p.x b
        edge_lt a b h = omega (whole, sum (p.x a) (pos (box_width t a)), sum (p.x a) (pos (box_width t a + 1)))

        begin_lt : (a b : ℕ) → Held a b (pos 1) → p.x a <ℤ p.x b
        begin_lt a b h = omega (whole, sum (p.x a) (pos 1))
