-- WORKED JOINS, computed: a rinse hung under cell 0 of document 01's printed example, a step under another cell. Assumes nothing.
use Rattle.std.specs.Prelude.{◌≡◌, refl, List, [], ◌∷◌, ℕ}
use Rattle.plan.specs.Lists.{from}
use Rattle.plan.specs.Forms as forms
use Rattle.plan.specs.Records.{bare}
use Rattle.planfile_spec.specs.Fields as fields
use Rattle.planfile_spec.specs.Format.{trailer_of, record_at, entry, records_of}
use Rattle.content.specs.Content.{text_of, item_of, content, letters_of, file_content}
use Rattle.content.specs.Clean.{narrow, all_narrow, form_for, mark_of, labels, record_of, entries, record_bytes, records_bytes, trailer_bytes, clean_end, clean}
use Rattle.content.specs.Worked.{plan, printed}
use Rattle.graft.specs.Joined.{raised, hung, hung_behind, cell_under}
use Rattle.join_file_spec.specs.Contents.{item_under, joined_items, joined_content}
use Rattle.join_file_spec.specs.Joined.{joined_file}

-- a run `Rinse` over a step `Out`, with an allowance of 9; its labels in another order
unfoldable pub rinse : List ℕ
rinse =
    79 ∷ 117 ∷ 116 ∷ 82 ∷ 105 ∷ 110 ∷ 115 ∷ 101
    ∷ 255 ∷ 255 ∷ 2 ∷ 7 ∷ 1 ∷ 5 ∷ 3 ∷ 0
    ∷ 0 ∷ 0 ∷ 1 ∷ 5 ∷ 1 ∷ 3 ∷ 0 ∷ 0
    ∷ 8 ∷ 0 ∷ 2 ∷ 0 ∷ 9 ∷ 0 ∷ 0x53 ∷ 0x54 ∷ []

-- `UpARunRinseOut`; the rinse's run is the third child of cell 0, and its step that of cell 3; the allowance is the first plan's, 0
pub rinsed : joined_file printed 0 rinse
    ≡ 85 ∷ 112 ∷ 65 ∷ 82 ∷ 117 ∷ 110 ∷ 82 ∷ 105 ∷ 110 ∷ 115 ∷ 101 ∷ 79 ∷ 117 ∷ 116
    ∷ 255 ∷ 255 ∷ 2 ∷ 4 ∷ 1 ∷ 2 ∷ 0 ∷ 0
    ∷ 0 ∷ 0 ∷ 1 ∷ 3 ∷ 1 ∷ 1 ∷ 2 ∷ 0
    ∷ 0 ∷ 0 ∷ 1 ∷ 5 ∷ 1 ∷ 3 ∷ 3 ∷ 0
    ∷ 0 ∷ 0 ∷ 2 ∷ 7 ∷ 1 ∷ 5 ∷ 6 ∷ 0
    ∷ 3 ∷ 0 ∷ 1 ∷ 5 ∷ 1 ∷ 3 ∷ 11 ∷ 0
    ∷ 14 ∷ 0 ∷ 5 ∷ 0 ∷ 0 ∷ 0 ∷ 0x53 ∷ 0x54 ∷ []
unfolding rinse joined_file joined_content joined_items item_under hung_behind hung raised cell_under plan printed clean clean_end form_for all_narrow narrow mark_of file_content content letters_of item_of text_of bare labels entries record_of record_bytes records_bytes trailer_bytes trailer_of records_of entry record_at from forms.form_of forms.record_size fields.pair fields.set_pair fields.number_at fields.set_number fields.set_record fields.set_trailer fields.parent_place fields.kind_place fields.width_place fields.depth_place fields.length_place fields.rank_place fields.start_place fields.begin_place fields.count_place fields.allowance_place fields.mark_place
rinsed = refl

-- a lone step `A` under cell 1 of a run over a run over a step `Out`: a cell that is not the root
unfoldable pub chain : List ℕ
chain =
    79 ∷ 117 ∷ 116
    ∷ 255 ∷ 255 ∷ 2 ∷ 2 ∷ 1 ∷ 0 ∷ 0 ∷ 0
    ∷ 0 ∷ 0 ∷ 2 ∷ 2 ∷ 1 ∷ 0 ∷ 0 ∷ 0
    ∷ 1 ∷ 0 ∷ 1 ∷ 5 ∷ 1 ∷ 3 ∷ 0 ∷ 0
    ∷ 3 ∷ 0 ∷ 3 ∷ 0 ∷ 0 ∷ 0 ∷ 0x53 ∷ 0x54 ∷ []

unfoldable pub step : List ℕ
step = 65 ∷ 255 ∷ 255 ∷ 1 ∷ 3 ∷ 1 ∷ 1 ∷ 0 ∷ 0 ∷ 1 ∷ 0 ∷ 1 ∷ 0 ∷ 0 ∷ 0 ∷ 0x53 ∷ 0x54 ∷ []

pub lower-down : joined_file chain 1 step
    ≡ 79 ∷ 117 ∷ 116 ∷ 65
    ∷ 255 ∷ 255 ∷ 2 ∷ 2 ∷ 1 ∷ 0 ∷ 0 ∷ 0
    ∷ 0 ∷ 0 ∷ 2 ∷ 2 ∷ 1 ∷ 0 ∷ 0 ∷ 0
    ∷ 1 ∷ 0 ∷ 1 ∷ 5 ∷ 1 ∷ 3 ∷ 0 ∷ 0
    ∷ 1 ∷ 0 ∷ 1 ∷ 3 ∷ 1 ∷ 1 ∷ 3 ∷ 0
    ∷ 4 ∷ 0 ∷ 4 ∷ 0 ∷ 0 ∷ 0 ∷ 0x53 ∷ 0x54 ∷ []
unfolding chain step joined_file joined_content joined_items item_under hung_behind hung raised cell_under plan printed clean clean_end form_for all_narrow narrow mark_of file_content content letters_of item_of text_of bare labels entries record_of record_bytes records_bytes trailer_bytes trailer_of records_of entry record_at from forms.form_of forms.record_size fields.pair fields.set_pair fields.number_at fields.set_number fields.set_record fields.set_trailer fields.parent_place fields.kind_place fields.width_place fields.depth_place fields.length_place fields.rank_place fields.start_place fields.begin_place fields.count_place fields.allowance_place fields.mark_place
lower-down = refl
