-- WORKED COPIES, each computed: document 01's printed example is its own clean copy; labels that are shared, out of order or followed by an unused byte, and empty labels; the form that a plan takes. Assumes nothing.
use Rattle.std.specs.Prelude.{◌≡◌, refl, List, [], ◌∷◌, ◌++◌, ℕ}
use Rattle.plan.specs.Lists.{from}
use Rattle.plan.specs.Forms as forms
use Rattle.plan.specs.Records.{bare}
use Rattle.planfile_spec.specs.Fields as fields
use Rattle.planfile_spec.specs.Format.{trailer_of, record_at, entry, records_of}
use Rattle.content.specs.Content.{text_of, item_of, content, letters_of, file_content}
use Rattle.content.specs.Clean.{narrow, all_narrow, form_for, mark_of, labels, record_of, entries, record_bytes, records_bytes, trailer_bytes, clean_end, clean, file_copy}

-- a run and two steps: the bytes of the labels; of each cell the label's length and start; the place where the records begin
unfoldable pub plan : (letters : List ℕ) (l a m b n c begin : ℕ) → List ℕ
plan letters l a m b n c begin =
    letters
    ++ (255 ∷ 255 ∷ 2 ∷ 4 ∷ 1 ∷ l ∷ a ∷ 0 ∷ 0 ∷ 0 ∷ 1 ∷ 3 ∷ 1 ∷ m ∷ b ∷ 0 ∷ 0 ∷ 0 ∷ 1 ∷ 5 ∷ 1 ∷ n ∷ c ∷ 0 ∷ begin ∷ 0 ∷ 3 ∷ 0 ∷ 0 ∷ 0 ∷ 0x53 ∷ 0x54 ∷ [])

-- the same of the wide form, the root of a width of two bytes and a rank
unfoldable pub wide : (low high rank : ℕ) → List ℕ
wide low high q =
    255 ∷ 255 ∷ 1 ∷ 1 ∷ low ∷ high ∷ 0 ∷ q ∷ 0 ∷ 0 ∷ 0 ∷ 0 ∷ 1 ∷ 0 ∷ 0 ∷ 0 ∷ 0x53 ∷ 0x55 ∷ []

-- document 01's 38 bytes: UpARun
unfoldable pub printed : List ℕ
printed = plan (85 ∷ 112 ∷ 65 ∷ 82 ∷ 117 ∷ 110 ∷ []) 2 0 1 2 3 3 6

pub printed-is-clean : file_copy printed ≡ printed
unfolding plan printed clean clean_end form_for all_narrow narrow mark_of file_content content letters_of item_of text_of bare labels entries record_of record_bytes records_bytes trailer_bytes trailer_of records_of entry record_at from forms.form_of forms.record_size fields.pair fields.set_pair fields.number_at fields.set_number fields.set_record fields.set_trailer fields.parent_place fields.kind_place fields.width_place fields.depth_place fields.length_place fields.rank_place fields.start_place fields.begin_place fields.count_place fields.allowance_place fields.mark_place
printed-is-clean = refl

-- RunAxUp: in another order, with a byte that no label uses; Up, shared by two cells, and an empty label last, which begins where a next label would: UpUp;
-- the wide form stays where a width is 256, and where the root has a rank; a width of 255 without one goes into the old form
pub worked-copies :
    (file_copy (plan (82 ∷ 117 ∷ 110 ∷ 65 ∷ 120 ∷ 85 ∷ 112 ∷ []) 2 5 1 3 3 0 7) ≡ printed)
    × (file_copy (plan (85 ∷ 112 ∷ []) 2 0 2 0 0 0 2) ≡ plan (85 ∷ 112 ∷ 85 ∷ 112 ∷ []) 2 0 2 2 0 4 4)
    × (file_copy (wide 0 1 0) ≡ wide 0 1 0)
    × (file_copy (wide 7 0 1) ≡ wide 7 0 1)
    × (file_copy (wide 255 0 0) ≡ 255 ∷ 255 ∷ 1 ∷ 255 ∷ 1 ∷ 0 ∷ 0 ∷ 0 ∷ 0 ∷ 0 ∷ 1 ∷ 0 ∷ 0 ∷ 0 ∷ 0x53 ∷ 0x54 ∷ [])
unfolding plan printed wide clean clean_end form_for all_narrow narrow mark_of file_content content letters_of item_of text_of bare labels entries record_of record_bytes records_bytes trailer_bytes trailer_of records_of entry record_at from forms.form_of forms.record_size fields.pair fields.set_pair fields.number_at fields.set_number fields.set_record fields.set_trailer fields.parent_place fields.kind_place fields.width_place fields.depth_place fields.length_place fields.rank_place fields.start_place fields.begin_place fields.count_place fields.allowance_place fields.mark_place
worked-copies = (refl, refl, refl, refl, refl)
