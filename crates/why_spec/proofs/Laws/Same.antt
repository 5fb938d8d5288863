-- A reason is a matter of the cells' x alone: placements that agree on them have the same. Assumes nothing.
use mathlib.Core.List.{List, [], ◌∷◌}
use Rattle.std.specs.Prelude.{◌≡◌, Bool, cond, length, T, ℤ}
use Rattle.std.proofs.Math.Path.{refl, ap}
use Rattle.std.proofs.Common.{◌∙◌}
use Rattle.std.proofs.Math.Bool.{true, false}
use Prim.Native.Nat.{ℕ, zero, suc, ◌≤◌}
use Rattle.plan.specs.Lists.{from, keep, some, mem}
use Rattle.plan.proofs.Laws.Lists.{mem-here, mem_there}
use Rattle.plan.specs.Plan.{Table, Is, cells}
use Rattle.plan.proofs.Laws.Plan.{cells-read}
use Rattle.rules.specs.Placement.{Placement, best}
use Rattle.why_spec.specs.Measures.{Measure, far}
use Rattle.why_spec.specs.Links.{Link}
use Rattle.why_spec.specs.Search.{first, tight, tied, link, leftmost, rightmost, leads, reached, closes, fewest, final, before, origin, trail, reason, why}
use Rattle.why_spec.proofs.Laws.Measures.{Measurable}
use Rattle.why_spec.proofs.Laws.Reached.{reached-is}

-- ---- tests that agree on a list
best-same : (pick : ℤ → ℤ → ℤ) (f g : ℕ → ℤ) (m : ℤ) (l : List ℕ) → ((a : ℕ) → T (mem a l) → f a ≡ g a) → best pick f m l ≡ best pick g m l
unfolding best
best-same pick f g m [] h = refl
best-same pick f g m (a ∷ l) h = rw (h a (mem-here a a l refl)) (best-same pick f g (pick m (g a)) l (λ b k. h b (mem_there b a l k)))

keep_same : (f g : ℕ → Bool) (l : List ℕ) → ((a : ℕ) → T (mem a l) → f a ≡ g a) → keep f l ≡ keep g l
unfolding keep
keep_same f g [] h = refl
keep_same f g (a ∷ l) h = rw (h a (mem-here a a l refl), keep_same f g l (λ b k. h b (mem_there b a l k)))

some_same : (f g : ℕ → Bool) (l : List ℕ) → ((a : ℕ) → T (mem a l) → f a ≡ g a) → some f l ≡ some g l
unfolding some
some_same f g [] h = refl
some_same f g (a ∷ l) h = rw (h a (mem-here a a l refl), some_same f g l (λ b k. h b (mem_there b a l k)))

first_same : (f g : ℕ → Bool) (l : List ℕ) → ((a : ℕ) → T (mem a l) → f a ≡ g a) → first f l ≡ first g l
unfolding first
first_same f g [] h = refl
first_same f g (a ∷ l) h = rw (h a (mem-here a a l refl), first_same f g l (λ b k. h b (mem_there b a l k)))

module _ (t : Table) (al : ℕ) (μ : Measure) (p q : Placement) (on : Measurable t μ) (some_cell : 1 ≤ length t) (same : (c : ℕ) → Is t c → p.x c ≡ q.x c) where
  tight-same : (a b r : ℕ) → Is t a → Is t b → tight t al p a b r ≡ tight t al q a b r
  unfolding tight
  tight-same a b r i j = rw (same a i, same b j)

  tied-same : (a b : ℕ) → Is t a → Is t b → tied t al p a b ≡ tied t al q a b
  unfolding tied
  tied-same a b i j = some_same (tight t al p a b) (tight t al q a b) (from 2 4) (λ r m. tight-same a b r i j)

  link-same : (a b : ℕ) → Is t a → Is t b → link t al p a b ≡ link t al q a b
  unfolding link
  link-same a b i j = rw (first_same (tight t al p a b) (tight t al q a b) (from 2 4) (λ r m. tight-same a b r i j), same a i, same b j)

  far-same : (a : ℕ) → Is t a → far μ p a ≡ far μ q a
  unfolding far
  far-same a i = rw (same a i)

  leftmost-same : (a : ℕ) → Is t a → leftmost μ p a ≡ leftmost μ q a
  unfolding leftmost
  leftmost-same a i = rw (same a i, same μ.start (on.starts_is μ.start on.start_in), best-same _ p.x q.x (q.x μ.start) μ.starts (λ b m. same b (on.starts_is b m)))

  rightmost-same : (a : ℕ) → Is t a → rightmost μ p a ≡ rightmost μ q a
  unfolding rightmost
  rightmost-same a i = rw (far-same a i, far-same μ.end (on.ends_is μ.end on.end_in), best-same _ (far μ p) (far μ q) (far μ q μ.end) μ.ends (λ b m. far-same b (on.ends_is b m)))

  leads-same : (l : List ℕ) (b : ℕ) → ((a : ℕ) → T (mem a l) → Is t a) → Is t b → leads t al p l b ≡ leads t al q l b
  unfolding leads
  leads-same l b inside j = rw (some_same (λ a. tied t al p a b) (λ a. tied t al q a b) l (λ a m. tied-same a b (inside a m) j))

  reached-same : (k : ℕ) → reached t al μ p k ≡ reached t al μ q k
  unfolding reached
  reached-same zero = keep_same (leftmost μ p) (leftmost μ q) (cells t) (λ a m. leftmost-same a (cells-read t a m))
  reached-same (suc k) =
      keep_same (leads t al p (reached t al μ p k)) (leads t al q (reached t al μ p k)) (cells t) (λ b m. leads-same (reached t al μ p k) b (λ a n. reached-is t al μ p k a n) (cells-read t b m))
      ∙ ap (λ (l : List ℕ). keep (leads t al q l) (cells t)) (reached-same k)

  closes-same : (k : ℕ) → closes t al μ p k ≡ closes t al μ q k
  unfolding closes
  closes-same k = some_same (rightmost μ p) (rightmost μ q) (reached t al μ p k) (λ a m. rightmost-same a (reached-is t al μ p k a m)) ∙ rw (reached-same k)

  fewest-same : fewest t al μ p ≡ fewest t al μ q
  unfolding fewest
  fewest-same = first_same (closes t al μ p) (closes t al μ q) (from 0 (length t)) (λ k m. closes-same k)

  final-same : final t al μ p ≡ final t al μ q
  unfolding final
  final-same = first_same (rightmost μ p) (rightmost μ q) (reached t al μ p (fewest t al μ p)) (λ a m. rightmost-same a (reached-is t al μ p (fewest t al μ p) a m)) ∙ rw (reached-same (fewest t al μ p), fewest-same)

  first-is : (f : ℕ → Bool) (l : List ℕ) → ((a : ℕ) → T (mem a l) → Is t a) → Is t (first f l)
  unfolding first
  first-is f [] h = some_cell
  first-is f (a ∷ l) h = go (f a) (first-is f l (λ b m. h b (mem_there b a l m)))
    where
      go : (b : Bool) → Is t (first f l) → Is t (cond b a (first f l))
      go true i = h a (mem-here a a l refl)
      go false i = i

  before-is : (k b : ℕ) → Is t (before t al μ p k b)
  unfolding before
  before-is k b = first-is _ (reached t al μ p k) (λ a m. reached-is t al μ p k a m)

  before_same : (k b : ℕ) → Is t b → before t al μ p k b ≡ before t al μ q k b
  unfolding before
  before_same k b j = first_same (λ a. tied t al p a b) (λ a. tied t al q a b) (reached t al μ p k) (λ a m. tied-same a b (reached-is t al μ p k a m) j) ∙ rw (reached-same k)

  origin-same : (k b : ℕ) → Is t b → origin t al μ p k b ≡ origin t al μ q k b
  unfolding origin
  origin-same zero b j = refl
  origin-same (suc k) b j = origin-same k (before t al μ p k b) (before-is k b) ∙ rw (before_same k b j)

  trail-same : (k b : ℕ) (ls : List Link) → Is t b → trail t al μ p k b ls ≡ trail t al μ q k b ls
  unfolding trail
  trail-same zero b ls j = refl
  trail-same (suc k) b ls j = trail-same k (before t al μ p k b) (link t al p (before t al μ p k b) b ∷ ls) (before-is k b) ∙ rw (link-same (before t al μ p k b) b (before-is k b) j, before_same k b j)

  final-is : Is t (final t al μ p)
  unfolding final
  final-is = first-is _ (reached t al μ p (fewest t al μ p)) (λ a m. reached-is t al μ p (fewest t al μ p) a m)

  pub reason-same : reason t al μ p ≡ reason t al μ q
  unfolding reason
  reason-same = rw (origin-same (fewest t al μ p) (final t al μ p) final-is, trail-same (fewest t al μ p) (final t al μ p) [] final-is, fewest-same, final-same)

  pub why-same : why t al μ p ≡ why t al μ q
  unfolding why
  why-same = rw (reason-same, some_same (closes t al μ p) (closes t al μ q) (from 0 (length t)) (λ k m. closes-same k))
