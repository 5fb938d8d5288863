-- A test of every byte before a place, byte by byte. Assumes nothing.
use Rattle.std.specs.Prelude.{◌≡◌, Bool, ◌&&◌, List, [], ◌∷◌, ℕ, suc, ◌+◌, ◌≤◌, ◌<◌, length, get_or, take, drop}
use Rattle.std.proofs.Math.Path.{refl}
use Rattle.std.proofs.Common.{sym, ap, ◌∙◌, add-one, drop_of_length-le, drop-cons, get_or-take, length-take-le}
use Rattle.std.proofs.Math.Bool.{true, false, cond}
use Rattle.plan.specs.Questions.{every}

-- those before i are tested, and the rest is to be
abbrev pub Tested : (ℕ → Bool) → List ℕ → (n i : ℕ) → Bool → Type 0
Tested test f n i b = every test (take n f) ≡ (b && every test (drop i (take n f)))

and_next : (b c r : Bool) → (b && (c && r)) ≡ ((b && c) && r)
and_next true c r = refl
and_next false c r = refl

and_true : (b : Bool) → (b && true) ≡ b
and_true true = refl
and_true false = refl

module _ (test : ℕ → Bool) where
  every_one : (v : ℕ) (vs : List ℕ) → every test (v ∷ vs) ≡ (test v && every test vs)
  unfolding every
  every_one v vs = go (test v)
    where
      go : (b : Bool) → cond b (every test vs) false ≡ (b && every test vs)
      go true = refl
      go false = refl

  every-none : every test [] ≡ true
  unfolding every
  every-none = refl

  module _ (f : List ℕ) (n i : ℕ) (b : Bool) (h : n ≤ length f) (inv : Tested test f n i b) where
    split : i < n → drop i (take n f) ≡ get_or f i 0 ∷ drop (suc i) (take n f)
    split l = drop-cons (take n f) i 0 (rw (length-take-le n f h) l) ∙ rw (get_or-take n f i 0 l)

    pub every_more : i < n → Tested test f n (i + 1) (b && test (get_or f i 0))
    every_more l = rw add-one (inv ∙ ap (λ (x : Bool). b && x) (ap (every test) (split l) ∙ every_one _ _) ∙ and_next b _ _)

    pub every-ends : n ≤ i → b ≡ every test (take n f)
    every-ends l = sym (inv ∙ ap (λ (x : Bool). b && x) (ap (every test) (drop_of_length-le (take n f) {i = i} (rw (length-take-le n f h) l)) ∙ every-none) ∙ and_true b)
