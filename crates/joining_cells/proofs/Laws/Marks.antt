-- The four marks of a cell, after they are put. Assumes nothing.
use Rattle.std.specs.Prelude.{◌≡◌, ◌≢◌, List, ℕ, zero, suc, ◌+◌, ◌*◌, ◌/◌, ◌%◌, ◌≤◌, ◌<◌, length, set}
use Rattle.std.proofs.Common.{div-add-mod', arith, length-set, get_or-set_same, get_or-set_other}
use Rattle.plan.specs.Limits.{farthest}
use Rattle.rows.specs.Rows.{Low}
use Rattle.joining_cells.specs.Cells.{mark, four, noted}

pub length-four : (ms : List ℕ) (c m0 m1 m2 m3 : ℕ) → length (four ms c m0 m1 m2 m3) ≡ length ms
length-four ms c m0 m1 m2 m3 = simp length-set

module _ (ms : List ℕ) (c m0 m1 m2 m3 : ℕ) (fits : 4 * c + 4 ≤ length ms) where
  pub mark_zero : mark (four ms c m0 m1 m2 m3) c 0 ≡ m0
  mark_zero =
      let z : 4 * c + 0 ≡ 4 * c = omega arith in
      let lt : 4 * c < length ms = omega arith in
      let e1 : 4 * c ≢ 4 * c + 1 = omega arith in
      let e2 : 4 * c ≢ 4 * c + 2 = omega arith in
      let e3 : 4 * c ≢ 4 * c + 3 = omega arith in
      rw (z, get_or-set_other, get_or-set_other, get_or-set_other, get_or-set_same)

  pub mark-one : mark (four ms c m0 m1 m2 m3) c 1 ≡ m1
  mark-one =
      let lt : 4 * c + 1 < length (set ms (4 * c) m0) = simp length-set (omega arith) in
      let e2 : 4 * c + 1 ≢ 4 * c + 2 = omega arith in
      let e3 : 4 * c + 1 ≢ 4 * c + 3 = omega arith in
      rw (get_or-set_other, get_or-set_other, get_or-set_same)

  pub mark-two : mark (four ms c m0 m1 m2 m3) c 2 ≡ m2
  mark-two =
      let lt : 4 * c + 2 < length (set (set ms (4 * c) m0) (4 * c + 1) m1) = simp length-set (omega arith) in
      let e3 : 4 * c + 2 ≢ 4 * c + 3 = omega arith in
      rw (get_or-set_other, get_or-set_same)

  pub mark-three : mark (four ms c m0 m1 m2 m3) c 3 ≡ m3
  mark-three =
      let lt : 4 * c + 3 < length (set (set (set ms (4 * c) m0) (4 * c + 1) m1) (4 * c + 2) m2) = simp length-set (omega arith) in
      rw get_or-set_same

pub mark-other : (ms : List ℕ) (c m0 m1 m2 m3 x k : ℕ) → k < 4 → x ≢ c → mark (four ms c m0 m1 m2 m3) x k ≡ mark ms x k
mark-other ms c m0 m1 m2 m3 x k l ne =
    let e0 : 4 * x + k ≢ 4 * c = omega arith in
    let e1 : 4 * x + k ≢ 4 * c + 1 = omega arith in
    let e2 : 4 * x + k ≢ 4 * c + 2 = omega arith in
    let e3 : 4 * x + k ≢ 4 * c + 3 = omega arith in
    rw (get_or-set_other, get_or-set_other, get_or-set_other, get_or-set_other)

pub noted-three : (ms : List ℕ) (c v : ℕ) → 4 * c + 4 ≤ length ms → mark (noted ms c v) c 3 ≡ v
noted-three ms c v fits = let lt : 4 * c + 3 < length ms = omega arith in rw get_or-set_same

-- the other marks of the cell, and those of other cells
pub noted_else : (ms : List ℕ) (c v x k : ℕ) → 4 * x + k ≢ 4 * c + 3 → mark (noted ms c v) x k ≡ mark ms x k
noted_else ms c v x k ne = rw get_or-set_other

-- all four are small, of every cell: all are
pub low_marks : (ms : List ℕ) → ((x k : ℕ) → k < 4 → mark ms x k ≤ farthest) → Low ms
low_marks ms h i =
    let e : 4 * (i / 4) + i % 4 ≡ i = omega (arith, div-add-mod' i 4) in
    rw e at (h (i / 4) (i % 4) (omega arith))

pub low_four : (ms : List ℕ) (x : ℕ) → mark ms x 0 ≤ farthest → mark ms x 1 ≤ farthest → mark ms x 2 ≤ farthest → mark ms x 3 ≤ farthest → (k : ℕ) → k < 4 → mark ms x k ≤ farthest
low_four ms x a0 a1 a2 a3 zero l = a0
low_four ms x a0 a1 a2 a3 (suc zero) l = a1
low_four ms x a0 a1 a2 a3 (suc (suc zero)) l = a2
low_four ms x a0 a1 a2 a3 (suc (suc (suc zero))) l = a3
low_four ms x a0 a1 a2 a3 (suc (suc (suc (suc k)))) l = absurd (omega arith)
