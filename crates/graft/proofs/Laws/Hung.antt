-- The members of a run hung behind another, place by place. Assumes nothing.
use Rattle.std.specs.Prelude.{◌≡◌, length, get_or}
use Rattle.std.proofs.Math.Path.{refl, ap}
use Rattle.std.proofs.Common.{◌∙◌, arith}
use mathlib.Core.List.{List, [], ◌∷◌, map}
use Prim.Native.Nat.{ℕ, zero, suc, ◌+◌, ◌≤◌, ◌<◌}
use Rattle.std.proofs.lemmas.List.{length-map}
use Rattle.std.proofs.Math.ListN.{length-append, get_or-append}
use Rattle.std.proofs.Math.Seq.{get_or-append-add}
use Rattle.graft.specs.Joined.{raised, hung, hung_behind}

map_at : {A : Type 0} (f : A → A) (xs : List A) (i : ℕ) (z : A) → i < length xs → get_or (map f xs) i z ≡ f (get_or xs i z)
map_at f [] i z h = absurd (omega arith)
map_at f (x ∷ xs) zero z h = refl
map_at f (x ∷ xs) (suc i) z h = map_at f xs i z (omega arith)

module _ {A : Type 0} (parent : A → ℕ) (under : ℕ → A → A) where
  length-hung : (n c : ℕ) (u : List A) → length (hung parent under n c u) ≡ length u
  unfolding hung
  length-hung n c [] = refl
  length-hung n c (x ∷ u) = ap suc (length-map u (raised parent under n))

  hung_root : (n c : ℕ) (u : List A) (z : A) → 1 ≤ length u → get_or (hung parent under n c u) 0 z ≡ under c (get_or u 0 z)
  unfolding hung
  hung_root n c [] z h = absurd (omega arith)
  hung_root n c (x ∷ u) z h = refl

  hung-later : (n c : ℕ) (u : List A) (z : A) (b : ℕ) → 1 ≤ b → b < length u → get_or (hung parent under n c u) b z ≡ raised parent under n (get_or u b z)
  unfolding hung
  hung-later n c [] z b l h = absurd (omega arith)
  hung-later n c (x ∷ u) z zero l h = absurd (omega arith)
  hung-later n c (x ∷ u) z (suc b) l h = map_at (raised parent under n) u b z (omega arith)

  module _ (t u : List A) (c : ℕ) where
    pub length_behind : length (hung_behind parent under t u c) ≡ length t + length u
    unfolding hung_behind
    length_behind = omega (arith, length-append t (hung parent under (length t) c u), length-hung (length t) c u)

    module _ (z : A) where
      pub behind_first : (a : ℕ) → a < length t → get_or (hung_behind parent under t u c) a z ≡ get_or t a z
      unfolding hung_behind
      behind_first a i = get_or-append t (hung parent under (length t) c u) z a i

      pub behind_root : 1 ≤ length u → get_or (hung_behind parent under t u c) (length t + 0) z ≡ under c (get_or u 0 z)
      unfolding hung_behind
      behind_root h = get_or-append-add t (hung parent under (length t) c u) 0 z ∙ hung_root (length t) c u z h

      pub behind_later : (b : ℕ) → 1 ≤ b → b < length u → get_or (hung_behind parent under t u c) (length t + b) z ≡ raised parent under (length t) (get_or u b z)
      unfolding hung_behind
      behind_later b l h = get_or-append-add t (hung parent under (length t) c u) b z ∙ hung-later (length t) c u z b l h
