-- Positions written cell by cell. Assumes nothing.
use Rattle.std.specs.Prelude.{◌≡◌, List, [], ◌∷◌, ◌++◌, ℤ, pos, ◌+ℤ◌, ◌-ℤ◌}
use Rattle.std.proofs.Math.Path.{refl, ap}
use Rattle.std.proofs.Common.{◌∙◌, append_assoc, length-drop}
use Prim.Native.Nat.{ℕ, zero, suc, ◌+◌, ◌*◌, ◌≤◌, ◌<◌}
use native.Mathlib.Omega.{arith}
use Rattle.std.proofs.Math.ListN.{length, get_or, drop, set, length-append}
use Rattle.std.proofs.Math.Seq.{drop-cons, set_at, append_snoc}
use Rattle.whole.proofs.Laws.Whole.{whole, sum, diff}
use Rattle.plan.specs.Plan.{Table}
use Rattle.rules.specs.Placement.{Placement, placed, Agree}
use Rattle.positions.specs.Written.{corners, written}

module _ (p : Placement) where
  corners-length : (k d : ℕ) → length (corners p k d) ≡ 2 * d
  unfolding corners
  corners-length k zero = omega arith
  corners-length k (suc d) = omega (arith, corners-length (suc k) d)

  -- the last cell as the first
  corners_last : (k d : ℕ) → corners p k (suc d) ≡ corners p k d ++ (p.x (k + d) ∷ p.y (k + d) ∷ [])
  unfolding corners
  corners_last k zero = let e : k + 0 ≡ k = omega arith in rw e
  corners_last k (suc d) = let e : k + suc d ≡ suc k + d = omega arith in rw e (cc (corners_last (suc k) d))

  pub written_none : (ps : List ℤ) → ps ≡ written ps p 0
  unfolding written corners
  written_none ps = refl

  pub written-length : (ps : List ℤ) (n : ℕ) → 2 * n ≤ length ps → length (written ps p n) ≡ length ps
  unfolding written
  written-length ps n h = simp (length-append, length-drop) (omega (arith, corners-length 0 n))

  -- one cell more is written
  written-more : (ps : List ℤ) (n : ℕ) → 2 * n + 2 ≤ length ps → set (set (written ps p n) (2 * n) (p.x n)) (2 * n + 1) (p.y n) ≡ written ps p (n + 1)
  unfolding written
  written-more ps n h =
      let cs = corners p 0 n in
      let l : length cs ≡ 2 * n = corners-length 0 n in
      let a : drop (2 * n) ps ≡ get_or ps (2 * n) (pos 0) ∷ drop (suc (2 * n)) ps = drop-cons ps (2 * n) (pos 0) (omega arith) in
      let b : drop (suc (2 * n)) ps ≡ get_or ps (suc (2 * n)) (pos 0) ∷ drop (suc (suc (2 * n))) ps = drop-cons ps (suc (2 * n)) (pos 0) (omega arith) in
      let rest = drop (suc (suc (2 * n))) ps in
      let first : set (cs ++ get_or ps (2 * n) (pos 0) ∷ get_or ps (suc (2 * n)) (pos 0) ∷ rest) (2 * n) (p.x n) ≡ cs ++ p.x n ∷ get_or ps (suc (2 * n)) (pos 0) ∷ rest
      = set_at cs _ _ _ (2 * n) l in
      let m : length (cs ++ (p.x n ∷ [])) ≡ 2 * n + 1 = simp length-append (omega arith) in
      let second : set ((cs ++ (p.x n ∷ [])) ++ get_or ps (suc (2 * n)) (pos 0) ∷ rest) (2 * n + 1) (p.y n) ≡ (cs ++ (p.x n ∷ [])) ++ p.y n ∷ rest
      = set_at (cs ++ (p.x n ∷ [])) _ _ _ (2 * n + 1) m in
      let e : n + 1 ≡ suc n = omega arith in
      let f : 2 * suc n ≡ suc (suc (2 * n)) = omega arith in
      let g : 0 + n ≡ n = omega arith in
      let last = rw g at (corners_last 0 n) in
      rw (a, b, first, e, f, last, append_assoc) (simp append_snoc at second)

  pub written-put : (ps qs : List ℤ) (n : ℕ) (x y : ℤ) → qs ≡ written ps p n → x ≡ p.x n → y ≡ p.y n → 2 * n + 2 ≤ length ps
      → set (set qs (2 * n) x) (2 * n + 1) y ≡ written ps p (n + 1)
  written-put ps qs n x y e f g h = rw (e, f, g) (written-more ps n h)

  -- what stands in the positions that were written
  corner_x : (rest : List ℤ) (k d c : ℕ) → c < d → get_or (corners p k d ++ rest) (2 * c) (pos 0) ≡ p.x (k + c)
  unfolding corners
  corner_x rest k zero c h = absurd (omega arith)
  corner_x rest k (suc d) zero h = let e : k + 0 ≡ k = omega arith in rw e
  corner_x rest k (suc d) (suc c) h =
      let e : 2 * suc c ≡ suc (suc (2 * c)) = omega arith in
      let f : k + suc c ≡ suc k + c = omega arith in
      rw (e, f) (corner_x rest (suc k) d c (omega arith))

  corner_y : (rest : List ℤ) (k d c : ℕ) → c < d → get_or (corners p k d ++ rest) (2 * c + 1) (pos 0) ≡ p.y (k + c)
  unfolding corners
  corner_y rest k zero c h = absurd (omega arith)
  corner_y rest k (suc d) zero h = let e : k + 0 ≡ k = omega arith in rw e
  corner_y rest k (suc d) (suc c) h =
      let e : 2 * suc c + 1 ≡ suc (suc (2 * c + 1)) = omega arith in
      let f : k + suc c ≡ suc k + c = omega arith in
      rw (e, f) (corner_y rest (suc k) d c (omega arith))

  -- the placement written, cell by cell
  pub written_agree : (t : Table) (ps : List ℤ) → Agree t (placed (written ps p (length t))) p
  unfolding written placed
  written_agree t ps =
      let first : (c : ℕ) → 0 + c ≡ c = λ c. omega arith in
      λ c i. (corner_x _ 0 (length t) c i ∙ ap p.x (first c), corner_y _ 0 (length t) c i ∙ ap p.y (first c))

-- ---- a whole number from the natural ones that hold it
pub less_none : (a : ℕ) → pos a -ℤ pos 0 ≡ pos a
less_none a = omega (whole, diff (pos a) (pos 0))

pub lowered : (a b : ℕ) (z : ℤ) → pos a ≡ z +ℤ pos b → pos a -ℤ pos b ≡ z
lowered a b z e = omega (whole, diff (pos a) (pos b), sum z (pos b))
