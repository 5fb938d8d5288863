-- What the kinds are, by number: for the code, which matches on it. Assumes nothing.
use Rattle.std.specs.Prelude.{◌≡◌, refl, true, false, Option, Some, None, is_some, ℕ, zero, suc, ◌+◌, leb}
use Rattle.plan.specs.declared.kinds.Kind.{Kind}
use Rattle.plan.specs.Limits.{between}
use Rattle.plan.specs.Kinds.{about, known, allows, bordered}

pub about-none : (k : ℕ) → ¬ (k ≡ 1) → ¬ (k ≡ 2) → ¬ (k ≡ 3) → ¬ (k ≡ 4) → ¬ (k ≡ 5) → about k ≡ None
unfolding about
about-none zero a b c d e = refl
about-none (suc zero) a b c d e = absurd (a refl)
about-none (suc (suc zero)) a b c d e = absurd (b refl)
about-none (suc (suc (suc zero))) a b c d e = absurd (c refl)
about-none (suc (suc (suc (suc zero)))) a b c d e = absurd (d refl)
about-none (suc (suc (suc (suc (suc zero))))) a b c d e = absurd (e refl)
about-none (suc (suc (suc (suc (suc (suc k)))))) a b c d e = refl

pub known-some : (k : ℕ) → is_some (about k) ≡ known k
unfolding known
known-some k = go (about k)
  where
    go : (l : Option Kind) → is_some l ≡ elim l [ Some r ↦ true | None ↦ false ]
    go (Some r) = refl
    go None = refl

pub allows-known : (k n : ℕ) (l : Option Kind) (r : Kind) → l ≡ about k → l ≡ Some r → allows k n ≡ between r.fewest r.most n
unfolding allows
allows-known k n l r e f = let g : about k ≡ Some r = cc in rw (g, allows)

pub bordered-known : (k n w : ℕ) (l : Option Kind) (r : Kind) → l ≡ about k → l ≡ Some r → bordered k n w ≡ leb (n + r.border) w
unfolding bordered
bordered-known k n w l r e f = let g : about k ≡ Some r = cc in rw (g, bordered)
