-- The parts of the file that the writer's loops make, and what its functions ask of each other. Nothing that a reader must believe stands here. Assumes nothing.
use Rattle.std.specs.Prelude.{◌≡◌, List, [], ◌++◌, Bool, true, ◌&&◌, cond, ℕ, zero, suc, ◌+◌, ◌≤◌, ◌<◌, T, eqb, leb, length, take, drop, get_or}
use Rattle.std.proofs.lemmas.List.Edits.{sets}
use Rattle.plan.specs.Limits.{most_cells, most_label, old_width}
use Rattle.plan.specs.declared.Record.{Record}
use Rattle.plan.specs.declared.forms.Form.{Form}
use Rattle.plan.specs.declared.forms.Form.TheVariants.{Old, Wide}
use Rattle.content.specs.Clean.{record_bytes}

-- the text stored byte by byte from a place, and the place after it handed back; the rest is as it was
pub record Put (before : List ℕ) (at : ℕ) (text after : List ℕ) (next : ℕ) : Type 0 where
  pub bytes : after ≡ sets before at text
  pub place : next ≡ at + length text
  pub as_long : length after ≡ length before

-- ---- the form
-- whether the boxes of the first c cells fit the old form
unfoldable pub narrow_to : (ws qs : List ℕ) → ℕ → Bool
narrow_to ws qs zero = true
narrow_to ws qs (suc c) = narrow_to ws qs c && (leb (get_or ws c 0) old_width && eqb (get_or qs c 0) 0)

unfoldable pub form_to : (ws qs : List ℕ) → ℕ → Form
form_to ws qs n = cond (narrow_to ws qs n) Old Wide

-- a width that a record of the form can hold
unfoldable pub Holds : Form → ℕ → Type 0
Holds Old w = w ≤ old_width
Holds Wide w = T true

-- ---- the labels of the first c cells, back to back, and where they end
abbrev pub text_at : (ls ss letters : List ℕ) → ℕ → List ℕ
text_at ls ss letters c = take (get_or ls c 0) (drop (get_or ss c 0) letters)

unfoldable pub labels_to : (ls ss letters : List ℕ) → ℕ → List ℕ
labels_to ls ss letters zero = []
labels_to ls ss letters (suc c) = labels_to ls ss letters c ++ text_at ls ss letters c

unfoldable pub sum_to : (ls : List ℕ) → ℕ → ℕ
sum_to ls zero = 0
sum_to ls (suc c) = sum_to ls c + get_or ls c 0

-- ---- the records of the first c cells
abbrev pub row_from : (ps ks ws ds qs ls : List ℕ) → (c start : ℕ) → Record
row_from ps ks ws ds qs ls c s =
    record { parent = get_or ps c 0; kind = get_or ks c 0; width = get_or ws c 0; depth = get_or ds c 0; rank = get_or qs c 0; label_length = get_or ls c 0; label_start = s }

unfoldable pub records_to : Form → (ps ks ws ds qs ls : List ℕ) → ℕ → List ℕ
records_to form ps ks ws ds qs ls zero = []
records_to form ps ks ws ds qs ls (suc c) = records_to form ps ks ws ds qs ls c ++ record_bytes form (row_from ps ks ws ds qs ls c (sum_to ls c))

-- ---- what the functions ask of each other
pub record Texts (ls ss : List ℕ) (n letters : ℕ) : Type 0 where
  pub few : n ≤ most_cells
  pub short : (c : ℕ) → c < n → get_or ls c 0 ≤ most_label
  pub within : (c : ℕ) → c < n → get_or ss c 0 + get_or ls c 0 ≤ letters

pub record Rows (form : Form) (ws ls : List ℕ) (n : ℕ) : Type 0 where
  pub few : n ≤ most_cells
  pub held : (c : ℕ) → c < n → Holds form (get_or ws c 0)
  pub short : (c : ℕ) → c < n → get_or ls c 0 ≤ most_label
