-- The refusals of Read and Label, as their code puts the questions. Assumes nothing.
use Rattle.std.specs.Prelude.{◌≡◌, ◌&&◌, ℕ, ◌<◌, leb, ltb, length, get_or}
use Rattle.std.proofs.Math.Path.{ap}
use Rattle.std.proofs.Common.{◌∙◌}
use mathlib.Core.List.{List, [], ◌∷◌, map}
use Rattle.std.proofs.Math.Nat.{zero-add}
use Rattle.std.proofs.Math.ListN.{length-map, get_or-map}
use Rattle.plan.specs.Limits.{most_cells, most_file, lines_size, most_allowance}
use Rattle.plan.specs.Lists.{from, some, mem}
use Rattle.plan.specs.Plan.{Cell, Table, blank, parent, kind, box_width, box_depth}
use Rattle.plan.specs.Records.{bare, cells_of}
use Rattle.plan.specs.Questions.{Buffer, to_fill, copy_output, lines_output, Subject, nothing, named, Given, Step, read, label, mend, no_label, parent_lower, kind_known, box_sized, label_inside, label_fits, children_allowed, level_low, rows_few, each, sequence, puts, put, with_each, kept, number, enough, roomy, all_roomy, in_table, in_file, on_labels, widest_in, holds, asked, or_else, at_each, ask, ask_all, take_step, take_steps, refusal}
use Rattle.plan.proofs.Laws.Columns.{length_from, get_or_from}
use Rattle.plan.proofs.Laws.Questions.{each_same}
use Rattle.plan.proofs.Laws.Kept.{asked_last, asked_true, none_first, and_true, or_assoc, refusal-kept, turn_ends, turn_once, turn_tree}
use Rattle.plan.specs.Steps.{cell_refusal, tree_refusal}
use Rattle.plan.specs.declared.Record.{Record}
use Rattle.planfile_spec.specs.Format.{trailer_of, entry, records_of, label_in, file_given}
use Rattle.planfile_spec.specs.Reading.{label_refusal}
use Rattle.planfile_spec.specs.FileSteps.{record_refusal, entry_refusal, formed_refusal, header_refusal, body_refusal, file_refusal}

no_record : Record
no_record = record { parent = 0; kind = 0; width = 0; depth = 0; rank = 0; label_length = 0; label_start = 0 }

module _ (f : List ℕ) where
  -- ---- the records of a file
  abbrev n : ℕ
  n = (trailer_of f).count

  abbrev t : Table
  t = cells_of (records_of f)

  pub records-length : length (records_of f) ≡ n
  unfolding records_of
  records-length = length_from (entry f) 0 n

  pub cells-length : length t ≡ n
  unfolding cells_of
  cells-length = length-map (records_of f) bare ∙ records-length

  module _ (c : ℕ) (h : c < n) where
    record_is : get_or (records_of f) c no_record ≡ entry f c
    unfolding records_of
    record_is = rw zero-add at (get_or_from (entry f) no_record 0 n c h)

    cell_is : get_or t c blank ≡ bare (entry f c)
    unfolding cells_of bare blank no_record
    cell_is = get_or-map bare (records_of f) c no_record ∙ ap bare record_is

    pub label_is : get_or (map label_in (records_of f)) c no_label ≡ label_in (entry f c)
    unfolding no_record
    label_is = get_or-map label_in (records_of f) c no_record ∙ ap label_in record_is

    pub parent_is : parent t c ≡ (entry f c).parent
    unfolding parent bare
    parent_is = ap (λ (x : Cell). x.parent) cell_is

    pub kind-is : kind t c ≡ (entry f c).kind
    unfolding kind bare
    kind-is = ap (λ (x : Cell). x.kind) cell_is

    pub width_is : box_width t c ≡ (entry f c).width
    unfolding box_width bare
    width_is = ap (λ (x : Cell). x.width) cell_is

    pub depth_is : box_depth t c ≡ (entry f c).depth
    unfolding box_depth bare
    depth_is = ap (λ (x : Cell). x.depth) cell_is

  -- ---- questions 6 to 13 of a file, then the rest of the call's
  module _ (bs : List Buffer) (s : Subject) where
    abbrev g : Given
    g = file_given f bs s

    at_record : (c : ℕ) → c < n → ask_all g (parent_lower ∷ kind_known ∷ box_sized ∷ label_inside ∷ label_fits ∷ []) c ≡ entry_refusal f c
    unfolding ask_all ask holds number in_file on_labels widest_in file_given cell_refusal record_refusal
    at_record c h = rw (parent_is c h, kind-is c h, width_is c h, depth_is c h, label_is c h) (simp (or_assoc, asked_last 9))

    pub turn_body : (ss : List Step) → take_steps g (each (parent_lower ∷ kind_known ∷ box_sized ∷ label_inside ∷ label_fits ∷ []) ∷ each (children_allowed ∷ []) ∷ each (level_low ∷ []) ∷ each (rows_few ∷ []) ∷ ss)
        ≡ or_else (at_each (entry_refusal f) 0 n) (or_else (tree_refusal t) (take_steps g ss))
    unfolding take_steps take_step file_given
    turn_body ss =
        let a : at_each (ask_all g (parent_lower ∷ kind_known ∷ box_sized ∷ label_inside ∷ label_fits ∷ [])) 0 (length t) ≡ at_each (entry_refusal f) 0 n = rw cells-length (each_same _ (entry_refusal f) n (λ c h. at_record c h)) in
        cc (a, turn_tree g ss)

  -- ---- Read
  pub read_refusal : (room : ℕ) → refusal read (file_given f (to_fill room ∷ []) nothing) ≡ or_else (asked 1 (leb most_cells room) 0) (file_refusal f)
  unfolding kept put with_each sequence number puts mem some from ask holds roomy all_roomy enough in_file on_labels file_given file_refusal formed_refusal header_refusal body_refusal
  read_refusal room =
      let bs = to_fill room ∷ [] in
      let g = file_given f bs nothing in
      refusal-kept read g
      ∙ simp (turn_once g, turn_body bs nothing, turn_ends g, cells-length, asked_true 0 0, none_first, and_true, or_assoc, asked_last 13 (leb (trailer_of f).allowance most_allowance) 0)

  -- ---- the mended file (document 02, E11), as Read's but for the buffers
  pub mend_refusal : (o l : ℕ) → refusal mend (file_given f (copy_output o ∷ lines_output l ∷ []) nothing) ≡ or_else (asked 1 (leb most_file o && leb lines_size l) 0) (file_refusal f)
  unfolding kept put with_each sequence number puts mem some from ask holds roomy all_roomy enough in_file on_labels file_given file_refusal formed_refusal header_refusal body_refusal
  mend_refusal o l =
      let bs = copy_output o ∷ lines_output l ∷ [] in
      let g = file_given f bs nothing in
      refusal-kept mend g
      ∙ simp (turn_once g, turn_body bs nothing, turn_ends g, cells-length, asked_true 0 0, none_first, and_true, or_assoc, asked_last 13 (leb (trailer_of f).allowance most_allowance) 0)

  -- ---- Label
  pub label_refusal-is : (c : ℕ) → label_refusal f c ≡ or_else (file_refusal f) (asked 16 (ltb c n) 0)
  unfolding label_refusal kept put with_each sequence number puts mem some from ask holds enough in_table in_file on_labels file_given file_refusal formed_refusal header_refusal body_refusal
  label_refusal-is c =
      let g = file_given f [] (named c) in
      refusal-kept label g
      ∙ simp (turn_once g, turn_body [] (named c), turn_ends g, cells-length, none_first, and_true, or_assoc, asked_last 15 (ltb c n) 0)
