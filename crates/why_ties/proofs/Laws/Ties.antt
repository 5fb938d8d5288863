-- A link that the code finds tight is one. Assumes nothing.
use Rattle.std.specs.Prelude.{◌≡◌, Bool, true, false, cond, ◌&&◌, ◌||◌, ℕ, ◌+◌, length, eqb, leb, ltb, ℤ, pos, ◌-ℤ◌}
use Rattle.std.proofs.Math.Path.{refl}
use Rattle.std.proofs.Common.{arith}
use Rattle.whole.specs.Says.{eq_z}
use Rattle.whole.proofs.Laws.Whole.{whole, diff}
use Rattle.whole.proofs.Laws.Says.{that_is, both, says_le, says_lt, says_eq, says_eq_z, same_test}
use Rattle.plan.specs.Limits.{farthest}
use Rattle.plan.specs.Plan.{Table, Is, Sound, box_width, box_depth, children, row, dictated_bottom}
use Rattle.rules.specs.Placement.{Placement}
use Rattle.rules.specs.Rules.{S1}
use Rattle.rules.specs.Tests.{flush}
use Rattle.rules.proofs.Laws.Extents.{y-row, bottom-row}
use Rattle.spans.proofs.Laws.Counted.{flush-is}
use Rattle.spans.proofs.Laws.Spans.{earlier-is, after_one-is, before_one-is}
use Rattle.looking_sights.specs.Sights.{Sights}
use Rattle.looking_sights.specs.Sees.{Sees}
use Rattle.looking.proofs.Laws.Meaning.{bottom_lift}
use Rattle.why_spec.specs.Links.{box_meets, stem_meets, asks}
use Rattle.plan.specs.Lists.{from, some}
use Rattle.why_spec.specs.Search.{first, tight, tied}
use Rattle.why_spec.proofs.Laws.Links.{bears, bottom-child}
use Rattle.why_ties.specs.Ties.{appoints, tie2, tie3_ends, tie3_starts, tie4_box, tie4_stem, tie5, rule_of}

and_same : {p q p' q' : Bool} → p ≡ p' → q ≡ q' → p && q ≡ p' && q'
and_same e f = rw (e, f)

or_same : {p q p' q' : Bool} → p ≡ p' → q ≡ q' → p || q ≡ p' || q'
or_same e f = rw (e, f)

module _ (t : Table) (p : Placement) (s : Sights) (sound : Sound t) (s1 : S1 t p) (g : Sees t p s) where
  y_is : (a : ℕ) → Is t a → (s a).y ≡ row t a + farthest
  y_is a i = omega (whole, g.ys a i, y-row t p sound s1 a i)

  bottom-is : (a : ℕ) → Is t a → (s a).bottom ≡ dictated_bottom t a + farthest
  bottom-is a i = omega (whole, bottom_lift t p s sound g a i, bottom-row t p sound s1 a i)

  module _ (al a b : ℕ) (i : Is t a) (j : Is t b) where
    abbrev d : ℤ
    d = p.x b -ℤ p.x a

    -- ---- distances
    same-x : eqb (s a).x (s b).x ≡ eq_z d (pos 0)
    same-x = same_test (that_is (says_eq (s a).x (s b).x) (λ e. omega (whole, g.xs a i, g.xs b j, diff (p.x b) (p.x a))) (λ e. omega (whole, g.xs a i, g.xs b j, diff (p.x b) (p.x a)))) (says_eq_z d (pos 0))

    next-x : eqb ((s a).x + 1) (s b).x ≡ eq_z d (pos 1)
    next-x = same_test (that_is (says_eq ((s a).x + 1) (s b).x) (λ e. omega (whole, g.xs a i, g.xs b j, diff (p.x b) (p.x a))) (λ e. omega (whole, g.xs a i, g.xs b j, diff (p.x b) (p.x a)))) (says_eq_z d (pos 1))

    next_edge : eqb ((s a).right + 1) (s b).x ≡ eq_z d (pos (box_width t a + 1))
    next_edge =
        same_test (that_is (says_eq ((s a).right + 1) (s b).x) (λ e. omega (whole, g.xs a i, g.xs b j, g.rights a i, diff (p.x b) (p.x a))) (λ e. omega (whole, g.xs a i, g.xs b j, g.rights a i, diff (p.x b) (p.x a)))) (says_eq_z d _)

    near-edge : eqb ((s a).right + 1) ((s b).x + al) ≡ eq_z d (pos (box_width t a + 1) -ℤ pos al)
    near-edge =
        same_test
        (that_is (says_eq ((s a).right + 1) ((s b).x + al)) (λ e. omega (whole, g.xs a i, g.xs b j, g.rights a i, diff (p.x b) (p.x a), diff (pos (box_width t a + 1)) (pos al)))
        (λ e. omega (whole, g.xs a i, g.xs b j, g.rights a i, diff (p.x b) (p.x a), diff (pos (box_width t a + 1)) (pos al))))
        (says_eq_z d _)

    -- ---- rows
    box : (leb (s a).y (s b).bottom && leb (s b).y (s a).base) ≡ box_meets t a b
    unfolding box_meets
    box =
        same_test
        (that_is (both (says_le (s a).y (s b).bottom) (says_le (s b).y (s a).base))
        (λ h. (omega (arith, h.0, y_is a i, bottom-is b j), omega (arith, h.1, y_is b j, y_is a i, g.bases a i)))
        (λ h. (omega (arith, h.0, y_is a i, bottom-is b j), omega (arith, h.1, y_is b j, y_is a i, g.bases a i))))
        (both (says_le (row t a) (dictated_bottom t b)) (says_le (row t b) (row t a + box_depth t a)))

    stem : (ltb (s a).base (s a).bottom && (ltb (s a).base (s b).bottom && leb (s b).y (s a).bottom)) ≡ stem_meets t a b
    unfolding stem_meets
    stem =
        same_test
        (that_is (both (says_lt (s a).base (s a).bottom) (both (says_lt (s a).base (s b).bottom) (says_le (s b).y (s a).bottom)))
        (λ h. (
          bears t sound a (omega (arith, h.0, y_is a i, g.bases a i, bottom-is a i)),
          (omega (arith, h.1.0, y_is a i, g.bases a i, bottom-is b j), omega (arith, h.1.1, y_is b j, bottom-is a i)),
        ))
        (λ h. (
          omega (arith, bottom-child t sound a h.0, y_is a i, g.bases a i, bottom-is a i),
          (omega (arith, h.1.0, y_is a i, g.bases a i, bottom-is b j), omega (arith, h.1.1, y_is b j, bottom-is a i)),
        )))
        (both (says_le 1 (length (children t a))) (both (says_le (row t a + box_depth t a + 1) (dictated_bottom t b)) (says_le (row t b) (dictated_bottom t a))))

    -- ---- kin
    flush_ab : (eqb (s b).parent a && eqb (s b).nth (s a).middle) ≡ flush t a b
    flush_ab = rw (g.parents b j, g.middles a i) (flush-is t g.counted a b i j)

    flush_ba : (eqb (s a).parent b && eqb (s a).nth (s b).middle) ≡ flush t b a
    flush_ba = rw (g.parents a i, g.middles b j) (flush-is t g.counted b a j i)

    pub two : tie2 a b (s a) (s b) ≡ tight t al p a b 2
    unfolding tie2 appoints tight asks
    two = and_same same-x (or_same flush_ab flush_ba)

    pub three : (tie3_ends (s a) (s b) || tie3_starts (s a) (s b)) ≡ tight t al p a b 3
    unfolding tie3_ends tie3_starts tight asks
    three = or_same (and_same next_edge (after_one-is t sound g.spans a b i j)) (and_same next-x (before_one-is t sound g.spans a b i j))

    pub four : (tie4_box (s a) (s b) || tie4_stem (s a) (s b)) ≡ tight t al p a b 4
    unfolding tie4_box tie4_stem tight asks
    four = or_same (and_same next_edge (and_same (earlier-is t sound g.spans a b i j) box)) (and_same next-x (and_same (earlier-is t sound g.spans a b i j) stem))

    pub five : tie5 al (s a) (s b) ≡ tight t al p a b 5
    unfolding tie5 tight asks
    five = and_same near-edge (earlier-is t sound g.spans a b i j)

    -- the lowest rule, and whether there is one
    rules_first : (f : ℕ → Bool) → first f (from 2 4) ≡ cond (f 2) 2 (cond (f 3) 3 (cond (f 4) 4 (cond (f 5) 5 0)))
    unfolding first from
    rules_first f = refl

    rules_some : (f : ℕ → Bool) → some f (from 2 4) ≡ f 2 || (f 3 || (f 4 || (f 5 || false)))
    unfolding some from
    rules_some f = refl

    pub rule_is : rule_of al a b (s a) (s b) ≡ first (tight t al p a b) (from 2 4)
    unfolding rule_of
    rule_is = rw (two, three, four, five, rules_first)

    some_first : (u v w z : Bool) → ltb 0 (cond u 2 (cond v 3 (cond w 4 (cond z 5 0)))) ≡ u || (v || (w || (z || false)))
    some_first true v w z = refl
    some_first false true w z = refl
    some_first false false true z = refl
    some_first false false false true = refl
    some_first false false false false = refl

    pub ties_is : ltb 0 (rule_of al a b (s a) (s b)) ≡ tied t al p a b
    unfolding rule_of tied
    ties_is = rw (two, three, four, five, rules_some) (some_first (tight t al p a b 2) (tight t al p a b 3) (tight t al p a b 4) (tight t al p a b 5))
