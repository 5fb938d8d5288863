-- What scattering columns over the cells keeps. Assumes nothing.
use mathlib.Core.Path.{◌≡◌, refl, ◌∙◌}
use mathlib.Core.Logic.{◌≢◌, inl, inr}
use mathlib.Core.List.{List, [], ◌∷◌}
use Prim.Native.Nat.{ℕ, zero, suc, ◌+◌, ◌*◌, ◌≤◌, ◌<◌}
use native.Mathlib.Nat.{add-zero}
use native.Mathlib.Omega.{arith}
use native.Mathlib.Decide.{ℕ_discrete}
use lib.ListN.{length, get_or, set, length-set}
use lib.Seq.{get_or-set_same, get_or-set_other}
use Rattle.plan.specs.Limits.{most_cells}
use Rattle.looking_columns.specs.Columns.{sight, Scattered}

-- ---- a column, cell by cell
pub record Scattering (column : List ℕ) (n k : ℕ) (xs ys : List ℕ) (c : ℕ) : Type 0 where
  pub high : c ≤ n
  pub few : n ≤ most_cells
  pub small : k < sight
  pub long : length ys ≡ most_cells * sight
  pub here : (i : ℕ) → i < c → get_or ys (sight * i + k) 0 ≡ get_or column i 0
  pub off : (j i : ℕ) → j < sight → j ≢ k → get_or ys (sight * i + j) 0 ≡ get_or xs (sight * i + j) 0

pub scattering_starts : (column : List ℕ) (n k : ℕ) (xs : List ℕ) → n ≤ most_cells → k < sight → length xs ≡ most_cells * sight → Scattering column n k xs xs 0
scattering_starts column n k xs few small long = record {
  high = omega arith;
  few = few;
  small = small;
  long = long;
  here = λ i l. absurd (omega arith);
  off = λ j i l d. refl;
}

module _ {column : List ℕ} {n k : ℕ} {xs ys : List ℕ} {c : ℕ} (h : Scattering column n k xs ys c) where
  pub scattering_turns : c < n → Scattering column n k xs (set ys (sight * c + k) (get_or column c 0)) (c + 1)
  scattering_turns l = record {
    high = omega arith;
    few = h.few;
    small = h.small;
    long = simp length-set h.long;
    here = λ i m. go i m (ℕ_discrete i c);
    off = λ j i m d. get_or-set_other ys (sight * c + k) (sight * i + j) _ 0 (omega (arith, h.small)) ∙ h.off j i m d;
  }
    where
      go : (i : ℕ) → i < c + 1 → Dec (i ≡ c) → get_or (set ys (sight * c + k) (get_or column c 0)) (sight * i + k) 0 ≡ get_or column i 0
      go i m (yes q) = rw q (get_or-set_same ys (sight * c + k) (get_or column c 0) 0 (omega (arith, h.long, h.few, h.small)))
      go i m (no q) = get_or-set_other ys (sight * c + k) (sight * i + k) _ 0 (omega arith) ∙ h.here i (omega arith)

  pub scattering_ends : n ≤ c → Scattered (column ∷ []) n k xs ys
  scattering_ends l = record { long = h.long; here = here; off = λ j i m d. h.off j i m (elim d [ inl p ↦ omega arith | inr p ↦ omega arith ]) }
    where
      here : (j i : ℕ) → j < 1 → i < n → get_or ys (sight * i + (k + j)) 0 ≡ get_or (get_or (column ∷ []) j []) i 0
      here zero i p m = rw add-zero (h.here i (omega arith))
      here (suc j) i p m = absurd (omega arith)
