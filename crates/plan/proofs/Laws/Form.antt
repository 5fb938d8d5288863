-- What holds of either form of a plan file, from its definitions. Assumes nothing.
use Rattle.std.specs.Prelude.{◌≡◌, ℕ, ◌+◌, ◌*◌, ◌≤◌, ◌<◌}
use Rattle.std.proofs.Common.{arith, add-one, mul-zero, mul-suc, mul-le-mul_left, mul-le-mul_right}
use Rattle.plan.specs.Limits.{most_width, old_size, wide_size}
use Rattle.plan.specs.declared.forms.Form.{Form}
use Rattle.plan.specs.declared.forms.Form.TheVariants.{Old, Wide}
use Rattle.plan.specs.Forms.{record_size, widest}

-- no form has wider boxes than a table
pub widest_low : (form : Form) → widest form ≤ most_width
unfolding widest
widest_low Old = omega arith
widest_low Wide = omega arith

-- no record is shorter than one of the old form, none longer than one of the wide form
pub sizes : (form : Form) → (old_size ≤ record_size form) × (record_size form ≤ wide_size)
unfolding record_size
sizes Old = (omega arith, omega arith)
sizes Wide = (omega arith, omega arith)

-- ---- n records of one size, one after the other, whatever the size (document 02, E7: "proved over the record size")
pub no-records : (size : ℕ) → size * 0 ≡ 0
no-records = mul-zero

pub next_record : (size c : ℕ) → size * (c + 1) ≡ size * c + size
next_record size c = rw add-one (mul-suc size c)

pub record_inside : (size c n : ℕ) → c < n → size * c + size ≤ size * n
record_inside size c n h = rw (mul-suc size c) at (mul-le-mul_left size h)

pub records_short : (size n : ℕ) → size ≤ wide_size → size * n ≤ wide_size * n
records_short size n h = mul-le-mul_right n h
