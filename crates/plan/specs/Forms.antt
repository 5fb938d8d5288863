-- Document 01, "File", and document 02, E7: the two forms of a plan file, told apart by its mark. Assumes nothing.
use Rattle.std.specs.Prelude.{Bool, ◌||◌, cond, ℕ, eqb}
use Rattle.plan.specs.Limits.{old_width, most_width, old_mark, wide_mark, old_size, wide_size}
use Rattle.plan.specs.declared.forms.Form.{Form}
use Rattle.plan.specs.declared.forms.Form.TheVariants.{Old, Wide}

-- question 3
unfoldable pub marked : (mark : ℕ) → Bool
marked m = eqb m old_mark || eqb m wide_mark

unfoldable pub form_of : (mark : ℕ) → Form
form_of m = cond (eqb m wide_mark) Wide Old

-- question 4: bytes of a record
unfoldable pub record_size : Form → ℕ
record_size Old = old_size
record_size Wide = wide_size

-- question 8: the greatest W
unfoldable pub widest : Form → ℕ
widest Old = old_width
widest Wide = most_width
