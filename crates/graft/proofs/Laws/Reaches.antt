-- Under one allowance every subtree of the second plan extends as in its own sheet, and so does every subtree of the first that does not hold the
-- named cell: both are alike in the joined table. Assumes nothing.
use Rattle.std.specs.Prelude.{◌≡◌, refl, List, [], ◌∷◌, ℕ, zero, suc, ◌+◌, ◌≤◌, length, T}
use Rattle.std.proofs.Common.{arith}
use Rattle.plan.specs.Lists.{At}
use Rattle.plan.specs.Plan.{Table, Is, Sound, children, within}
use Rattle.plan.proofs.Laws.Plan.{child-read}
use Rattle.plan.proofs.Laws.Paths.{child_less, within-self, within-child}
use Rattle.rules.specs.Placement.{left_extent, right_extent}
use Rattle.contours.specs.Sheet.{sheet}
use Rattle.least.specs.Alike.{Same, Alike}
use Rattle.least.proofs.Theorems.{alike_extents}
use Rattle.graft.specs.Joined.{joined}
use Rattle.graft.proofs.Laws.Lists.{up}
use Rattle.graft.proofs.Laws.Joined.{length-joined, first_kind, first_width, first_depth, second-kind, second-width, second_depth, first-children, second-children, joined-sound}

module _ (t u : Table) (st : Sound t) (su : Sound u) (some_first : 1 ≤ length t) (some_second : 1 ≤ length u) (c : ℕ) (at : Is t c) where
  abbrev J : Table
  J = joined t u c

  -- siblings of the second and those raised, d levels and more from the last cell
  abbrev Seconds : ℕ → Type 0
  Seconds d = (cs : List ℕ) → ((i s : ℕ) → At cs i s → Is u s × (length u ≤ s + d)) → Alike J u (up (length t) cs) cs

  second-same : (b : ℕ) → Is u b → Same J u (length t + b) b
  second-same b i = record { kinds = second-kind t u c b i; widths = second-width t u c b i; depths = second_depth t u c b i }

  seconds_more : (d : ℕ) → Seconds d → Seconds (suc d)
  seconds_more d g [] h = Alike.nil
  seconds_more d g (b ∷ cs) h =
      let i = (h 0 b refl).0 in
      Alike.cons (second-same b i)
      (rw (second-children t u st some_first some_second c at b i) (g (children u b) (λ j s z. ((child_less u su b j s z).1, omega (arith, child_less u su b j s z, h 0 b refl)))))
      (seconds_more d g cs (λ j. h (suc j)))

  seconds : (d : ℕ) → Seconds d
  seconds zero [] h = Alike.nil
  seconds zero (b ∷ cs) h = absurd (omega (arith, h 0 b refl))
  seconds (suc d) cs h = seconds_more d (seconds d) cs h

  second_alike : (b : ℕ) → Is u b → Alike J u ((length t + b) ∷ []) (b ∷ [])
  second_alike b i = seconds (length u) (b ∷ []) go
    where
      go : (j s : ℕ) → At (b ∷ []) j s → Is u s × (length u ≤ s + length u)
      go zero s e = (omega arith, omega arith)
      go (suc j) s e = absurd e

  -- siblings of the first that do not hold c
  abbrev Firsts : ℕ → Type 0
  Firsts d = (cs : List ℕ) → ((i s : ℕ) → At cs i s → Is t s × (T (within t s c) → ⊥) × (length t ≤ s + d)) → Alike J t cs cs

  first_same : (a : ℕ) → Is t a → Same J t a a
  first_same a i = record { kinds = first_kind t u c a i; widths = first_width t u c a i; depths = first_depth t u c a i }

  firsts_more : (d : ℕ) → Firsts d → Firsts (suc d)
  firsts_more d g [] h = Alike.nil
  firsts_more d g (a ∷ cs) h =
      let (i, n, l) = h 0 a refl in
      Alike.cons (first_same a i)
      (rw (first-children t u st some_first some_second c at a i (λ e. n (rw e (within-self t st c))))
      (g (children t a) (λ j s z. ((child_less t st a j s z).1, λ w. n (within-child t st a s c (child-read t a j s z) w), omega (arith, child_less t st a j s z)))))
      (firsts_more d g cs (λ j. h (suc j)))

  firsts : (d : ℕ) → Firsts d
  firsts zero [] h = Alike.nil
  firsts zero (a ∷ cs) h = absurd (omega (arith, (h 0 a refl).0, (h 0 a refl).2))
  firsts (suc d) cs h = firsts_more d (firsts d) cs h

  first_alike : (a : ℕ) → Is t a → (T (within t a c) → ⊥) → Alike J t (a ∷ []) (a ∷ [])
  first_alike a i n = firsts (length t) (a ∷ []) go
    where
      go : (j s : ℕ) → At (a ∷ []) j s → Is t s × (T (within t s c) → ⊥) × (length t ≤ s + length t)
      go zero s e = (omega arith, λ w. n (rw e at w), omega arith)
      go (suc j) s e = absurd e

  sound : Sound J
  sound = joined-sound t u st some_first some_second c at su

  -- ---- the two promises, from the one law of alike subtrees
  pub second_reaches : (al b : ℕ) → Is u b
      → (left_extent J (sheet J al) (length t + b) ≡ left_extent u (sheet u al) b) × (right_extent J (sheet J al) (length t + b) ≡ right_extent u (sheet u al) b)
  second_reaches al b i = alike_extents J u sound su al (length t + b) b (omega (arith, length-joined t u c)) i (second_alike b i)

  pub first_reaches : (al a : ℕ) → Is t a → ¬ T (within t a c)
      → (left_extent J (sheet J al) a ≡ left_extent t (sheet t al) a) × (right_extent J (sheet J al) a ≡ right_extent t (sheet t al) a)
  first_reaches al a i n = alike_extents J t sound st al a a (omega (arith, length-joined t u c)) i (first_alike a i n)
