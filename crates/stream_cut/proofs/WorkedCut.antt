-- The cut of worked streams, by evaluation.
use Rattle.std.proofs.Common.{◌≡◌, ℕ, List, [], ◌∷◌, refl}
use Rattle.field_rows.specs.Rows.{read, spelled, field_at, ◌>>=◌, number, within, number_under, flag, flag_set, byte_end, whole_bytes, if_set, bytes_under, word_under, byte_under, check_at, renamed, numbers}
use Rattle.sequence_header.specs.Header.{version_rows, size_rows, sampling_rows, excursion, scan_rows, rate_rows, aspect_rows, clean_rows, signal_rows, flagged_index, colour_rows, coding_rows, header_fields, header_rows}
use Rattle.bit_codes.specs.Codes.{intlog2}
use Rattle.parse_info.specs.Head.{head_rows}
use Rattle.transform_params.specs.Params.{wavelet_index_rows, wavelet_rows, slices_y_rows, denominator_rows, slicing_rows, matrix_rows, params_fields, params_rows}
use Rattle.slice_geometry.specs.declared.unit_list.UnitShape.{UnitShape}
use Rattle.run_theory.specs.Walk.{Answer, answer_from, answer_to, out_of}
use Rattle.stream_rows.specs.declared.reason.Reason.TheVariants as reasons
use Rattle.stream_rows.specs.Units.{unit_head, payload_of, payload_rows, first_payload, repeated_payload, skipped_payload, next_checked}
use Rattle.stream_cut.specs.Skim.{skim_slices, skim_picture, skim_payload_of, skim_payload, skim_rows}
use Rattle.stream_cut.specs.Cut.{Frames, CutEnd, Whole, Refused, cut_machine}

-- how a cut ends, and all that it writes
record Comes (answer : Answer CutEnd) (ending : CutEnd) (out : List ℕ) : Type 0 where
  ends : answer.ending ≡ ending
  writes : out_of answer ≡ out

abbrev shape : ℕ → ℕ → ℕ → UnitShape
shape start head slices = record { start = start; head = head; slices = slices; a = 1; b = 1 }

abbrev frames : ℕ → ℕ → Frames
frames from to = record { from = from; to = to }

-- second frame
second_frame : Comes (answer_to (cut_machine (frames 1 2)) (66 ∷ 66 ∷ 67 ∷ 68 ∷ 0 ∷ 0 ∷ 0 ∷ 0 ∷ 17 ∷ 0 ∷ 0 ∷ 0 ∷ 0 ∷ 63 ∷ 39 ∷ 66 ∷ 74 ∷ 66 ∷ 66 ∷ 67 ∷ 68 ∷ 200 ∷ 0 ∷ 0 ∷ 0 ∷ 21 ∷ 0 ∷ 0 ∷ 0 ∷ 17 ∷ 0 ∷ 0 ∷ 0 ∷ 0 ∷ 12 ∷ 146 ∷ 112 ∷ 1 ∷ 66 ∷ 66 ∷ 67 ∷ 68 ∷ 200 ∷ 0 ∷ 0 ∷ 0 ∷ 21 ∷ 0 ∷ 0 ∷ 0 ∷ 21 ∷ 0 ∷ 0 ∷ 0 ∷ 1 ∷ 12 ∷ 146 ∷ 112 ∷ 0 ∷ 66 ∷ 66 ∷ 67 ∷ 68 ∷ 16 ∷ 0 ∷ 0 ∷ 0 ∷ 0 ∷ 0 ∷ 0 ∷ 0 ∷ 21 ∷ [])) (Whole (shape 0 17 0 ∷ shape 17 20 1 ∷ shape 38 13 0 ∷ []) 51) (66 ∷ 66 ∷ 67 ∷ 68 ∷ 0 ∷ 0 ∷ 0 ∷ 0 ∷ 17 ∷ 0 ∷ 0 ∷ 0 ∷ 0 ∷ 63 ∷ 39 ∷ 66 ∷ 74 ∷ 66 ∷ 66 ∷ 67 ∷ 68 ∷ 200 ∷ 0 ∷ 0 ∷ 0 ∷ 21 ∷ 0 ∷ 0 ∷ 0 ∷ 17 ∷ 0 ∷ 0 ∷ 0 ∷ 1 ∷ 12 ∷ 146 ∷ 112 ∷ 0 ∷ 66 ∷ 66 ∷ 67 ∷ 68 ∷ 16 ∷ 0 ∷ 0 ∷ 0 ∷ 0 ∷ 0 ∷ 0 ∷ 0 ∷ 21 ∷ [])
unfolding answer_from skim_rows skim_payload skim_payload_of skim_picture skim_slices skipped_payload next_checked payload_rows first_payload repeated_payload unit_head head_rows payload_of params_rows params_fields wavelet_index_rows wavelet_rows slices_y_rows denominator_rows slicing_rows matrix_rows header_rows header_fields version_rows size_rows sampling_rows excursion scan_rows rate_rows aspect_rows clean_rows signal_rows colour_rows coding_rows flagged_index field_at spelled read ◌>>=◌ number within number_under flag flag_set byte_end whole_bytes if_set bytes_under word_under byte_under check_at renamed numbers intlog2
second_frame = record { ends = refl; writes = refl }

-- none
none : Comes (answer_to (cut_machine (frames 5 9)) (66 ∷ 66 ∷ 67 ∷ 68 ∷ 0 ∷ 0 ∷ 0 ∷ 0 ∷ 17 ∷ 0 ∷ 0 ∷ 0 ∷ 0 ∷ 63 ∷ 39 ∷ 66 ∷ 74 ∷ 66 ∷ 66 ∷ 67 ∷ 68 ∷ 200 ∷ 0 ∷ 0 ∷ 0 ∷ 21 ∷ 0 ∷ 0 ∷ 0 ∷ 17 ∷ 0 ∷ 0 ∷ 0 ∷ 0 ∷ 12 ∷ 146 ∷ 112 ∷ 1 ∷ 66 ∷ 66 ∷ 67 ∷ 68 ∷ 200 ∷ 0 ∷ 0 ∷ 0 ∷ 21 ∷ 0 ∷ 0 ∷ 0 ∷ 21 ∷ 0 ∷ 0 ∷ 0 ∷ 1 ∷ 12 ∷ 146 ∷ 112 ∷ 0 ∷ 66 ∷ 66 ∷ 67 ∷ 68 ∷ 16 ∷ 0 ∷ 0 ∷ 0 ∷ 0 ∷ 0 ∷ 0 ∷ 0 ∷ 21 ∷ [])) (Whole (shape 0 17 0 ∷ shape 17 13 0 ∷ []) 30) (66 ∷ 66 ∷ 67 ∷ 68 ∷ 0 ∷ 0 ∷ 0 ∷ 0 ∷ 17 ∷ 0 ∷ 0 ∷ 0 ∷ 0 ∷ 63 ∷ 39 ∷ 66 ∷ 74 ∷ 66 ∷ 66 ∷ 67 ∷ 68 ∷ 16 ∷ 0 ∷ 0 ∷ 0 ∷ 0 ∷ 0 ∷ 0 ∷ 0 ∷ 17 ∷ [])
unfolding answer_from skim_rows skim_payload skim_payload_of skim_picture skim_slices skipped_payload next_checked payload_rows first_payload repeated_payload unit_head head_rows payload_of params_rows params_fields wavelet_index_rows wavelet_rows slices_y_rows denominator_rows slicing_rows matrix_rows header_rows header_fields version_rows size_rows sampling_rows excursion scan_rows rate_rows aspect_rows clean_rows signal_rows colour_rows coding_rows flagged_index field_at spelled read ◌>>=◌ number within number_under flag flag_set byte_end whole_bytes if_set bytes_under word_under byte_under check_at renamed numbers intlog2
none = record { ends = refl; writes = refl }

-- counted through the stream
counted_through_the_stream : Comes (answer_to (cut_machine (frames 2 5)) (66 ∷ 66 ∷ 67 ∷ 68 ∷ 0 ∷ 0 ∷ 0 ∷ 0 ∷ 17 ∷ 0 ∷ 0 ∷ 0 ∷ 0 ∷ 63 ∷ 39 ∷ 66 ∷ 74 ∷ 66 ∷ 66 ∷ 67 ∷ 68 ∷ 200 ∷ 0 ∷ 0 ∷ 0 ∷ 21 ∷ 0 ∷ 0 ∷ 0 ∷ 17 ∷ 0 ∷ 0 ∷ 0 ∷ 7 ∷ 12 ∷ 146 ∷ 112 ∷ 7 ∷ 66 ∷ 66 ∷ 67 ∷ 68 ∷ 16 ∷ 0 ∷ 0 ∷ 0 ∷ 0 ∷ 0 ∷ 0 ∷ 0 ∷ 21 ∷ 66 ∷ 66 ∷ 67 ∷ 68 ∷ 0 ∷ 0 ∷ 0 ∷ 0 ∷ 17 ∷ 0 ∷ 0 ∷ 0 ∷ 13 ∷ 63 ∷ 39 ∷ 66 ∷ 74 ∷ 66 ∷ 66 ∷ 67 ∷ 68 ∷ 200 ∷ 0 ∷ 0 ∷ 0 ∷ 21 ∷ 0 ∷ 0 ∷ 0 ∷ 17 ∷ 0 ∷ 0 ∷ 0 ∷ 0 ∷ 12 ∷ 146 ∷ 112 ∷ 0 ∷ 66 ∷ 66 ∷ 67 ∷ 68 ∷ 200 ∷ 0 ∷ 0 ∷ 0 ∷ 21 ∷ 0 ∷ 0 ∷ 0 ∷ 21 ∷ 0 ∷ 0 ∷ 0 ∷ 1 ∷ 12 ∷ 146 ∷ 112 ∷ 1 ∷ 66 ∷ 66 ∷ 67 ∷ 68 ∷ 0 ∷ 0 ∷ 0 ∷ 0 ∷ 17 ∷ 0 ∷ 0 ∷ 0 ∷ 21 ∷ 63 ∷ 39 ∷ 66 ∷ 74 ∷ 66 ∷ 66 ∷ 67 ∷ 68 ∷ 32 ∷ 0 ∷ 0 ∷ 0 ∷ 15 ∷ 0 ∷ 0 ∷ 0 ∷ 17 ∷ 170 ∷ 187 ∷ 66 ∷ 66 ∷ 67 ∷ 68 ∷ 48 ∷ 0 ∷ 0 ∷ 0 ∷ 13 ∷ 0 ∷ 0 ∷ 0 ∷ 15 ∷ 66 ∷ 66 ∷ 67 ∷ 68 ∷ 200 ∷ 0 ∷ 0 ∷ 0 ∷ 21 ∷ 0 ∷ 0 ∷ 0 ∷ 13 ∷ 0 ∷ 0 ∷ 0 ∷ 2 ∷ 12 ∷ 146 ∷ 112 ∷ 2 ∷ 66 ∷ 66 ∷ 67 ∷ 68 ∷ 16 ∷ 0 ∷ 0 ∷ 0 ∷ 0 ∷ 0 ∷ 0 ∷ 0 ∷ 21 ∷ 66 ∷ 66 ∷ 67 ∷ 68 ∷ 0 ∷ 0 ∷ 0 ∷ 0 ∷ 17 ∷ 0 ∷ 0 ∷ 0 ∷ 13 ∷ 63 ∷ 39 ∷ 66 ∷ 74 ∷ 66 ∷ 66 ∷ 67 ∷ 68 ∷ 200 ∷ 0 ∷ 0 ∷ 0 ∷ 21 ∷ 0 ∷ 0 ∷ 0 ∷ 17 ∷ 0 ∷ 0 ∷ 0 ∷ 9 ∷ 12 ∷ 146 ∷ 112 ∷ 9 ∷ 66 ∷ 66 ∷ 67 ∷ 68 ∷ 16 ∷ 0 ∷ 0 ∷ 0 ∷ 0 ∷ 0 ∷ 0 ∷ 0 ∷ 21 ∷ [])) (Whole (shape 0 17 0 ∷ shape 17 20 1 ∷ shape 38 20 1 ∷ shape 59 13 0 ∷ shape 72 17 0 ∷ shape 89 20 1 ∷ shape 110 13 0 ∷ []) 123) (66 ∷ 66 ∷ 67 ∷ 68 ∷ 0 ∷ 0 ∷ 0 ∷ 0 ∷ 17 ∷ 0 ∷ 0 ∷ 0 ∷ 0 ∷ 63 ∷ 39 ∷ 66 ∷ 74 ∷ 66 ∷ 66 ∷ 67 ∷ 68 ∷ 200 ∷ 0 ∷ 0 ∷ 0 ∷ 21 ∷ 0 ∷ 0 ∷ 0 ∷ 17 ∷ 0 ∷ 0 ∷ 0 ∷ 1 ∷ 12 ∷ 146 ∷ 112 ∷ 1 ∷ 66 ∷ 66 ∷ 67 ∷ 68 ∷ 200 ∷ 0 ∷ 0 ∷ 0 ∷ 21 ∷ 0 ∷ 0 ∷ 0 ∷ 21 ∷ 0 ∷ 0 ∷ 0 ∷ 2 ∷ 12 ∷ 146 ∷ 112 ∷ 2 ∷ 66 ∷ 66 ∷ 67 ∷ 68 ∷ 16 ∷ 0 ∷ 0 ∷ 0 ∷ 0 ∷ 0 ∷ 0 ∷ 0 ∷ 21 ∷ 66 ∷ 66 ∷ 67 ∷ 68 ∷ 0 ∷ 0 ∷ 0 ∷ 0 ∷ 17 ∷ 0 ∷ 0 ∷ 0 ∷ 0 ∷ 63 ∷ 39 ∷ 66 ∷ 74 ∷ 66 ∷ 66 ∷ 67 ∷ 68 ∷ 200 ∷ 0 ∷ 0 ∷ 0 ∷ 21 ∷ 0 ∷ 0 ∷ 0 ∷ 17 ∷ 0 ∷ 0 ∷ 0 ∷ 9 ∷ 12 ∷ 146 ∷ 112 ∷ 9 ∷ 66 ∷ 66 ∷ 67 ∷ 68 ∷ 16 ∷ 0 ∷ 0 ∷ 0 ∷ 0 ∷ 0 ∷ 0 ∷ 0 ∷ 21 ∷ [])
unfolding answer_from skim_rows skim_payload skim_payload_of skim_picture skim_slices skipped_payload next_checked payload_rows first_payload repeated_payload unit_head head_rows payload_of params_rows params_fields wavelet_index_rows wavelet_rows slices_y_rows denominator_rows slicing_rows matrix_rows header_rows header_fields version_rows size_rows sampling_rows excursion scan_rows rate_rows aspect_rows clean_rows signal_rows colour_rows coding_rows flagged_index field_at spelled read ◌>>=◌ number within number_under flag flag_set byte_end whole_bytes if_set bytes_under word_under byte_under check_at renamed numbers intlog2
counted_through_the_stream = record { ends = refl; writes = refl }

-- counted through the stream 3
counted_through_the_stream_3 : Comes (answer_to (cut_machine (frames 0 2)) (66 ∷ 66 ∷ 67 ∷ 68 ∷ 0 ∷ 0 ∷ 0 ∷ 0 ∷ 17 ∷ 0 ∷ 0 ∷ 0 ∷ 0 ∷ 63 ∷ 39 ∷ 66 ∷ 74 ∷ 66 ∷ 66 ∷ 67 ∷ 68 ∷ 200 ∷ 0 ∷ 0 ∷ 0 ∷ 21 ∷ 0 ∷ 0 ∷ 0 ∷ 17 ∷ 0 ∷ 0 ∷ 0 ∷ 7 ∷ 12 ∷ 146 ∷ 112 ∷ 7 ∷ 66 ∷ 66 ∷ 67 ∷ 68 ∷ 16 ∷ 0 ∷ 0 ∷ 0 ∷ 0 ∷ 0 ∷ 0 ∷ 0 ∷ 21 ∷ 66 ∷ 66 ∷ 67 ∷ 68 ∷ 0 ∷ 0 ∷ 0 ∷ 0 ∷ 17 ∷ 0 ∷ 0 ∷ 0 ∷ 13 ∷ 63 ∷ 39 ∷ 66 ∷ 74 ∷ 66 ∷ 66 ∷ 67 ∷ 68 ∷ 200 ∷ 0 ∷ 0 ∷ 0 ∷ 21 ∷ 0 ∷ 0 ∷ 0 ∷ 17 ∷ 0 ∷ 0 ∷ 0 ∷ 0 ∷ 12 ∷ 146 ∷ 112 ∷ 0 ∷ 66 ∷ 66 ∷ 67 ∷ 68 ∷ 200 ∷ 0 ∷ 0 ∷ 0 ∷ 21 ∷ 0 ∷ 0 ∷ 0 ∷ 21 ∷ 0 ∷ 0 ∷ 0 ∷ 1 ∷ 12 ∷ 146 ∷ 112 ∷ 1 ∷ 66 ∷ 66 ∷ 67 ∷ 68 ∷ 0 ∷ 0 ∷ 0 ∷ 0 ∷ 17 ∷ 0 ∷ 0 ∷ 0 ∷ 21 ∷ 63 ∷ 39 ∷ 66 ∷ 74 ∷ 66 ∷ 66 ∷ 67 ∷ 68 ∷ 32 ∷ 0 ∷ 0 ∷ 0 ∷ 15 ∷ 0 ∷ 0 ∷ 0 ∷ 17 ∷ 170 ∷ 187 ∷ 66 ∷ 66 ∷ 67 ∷ 68 ∷ 48 ∷ 0 ∷ 0 ∷ 0 ∷ 13 ∷ 0 ∷ 0 ∷ 0 ∷ 15 ∷ 66 ∷ 66 ∷ 67 ∷ 68 ∷ 200 ∷ 0 ∷ 0 ∷ 0 ∷ 21 ∷ 0 ∷ 0 ∷ 0 ∷ 13 ∷ 0 ∷ 0 ∷ 0 ∷ 2 ∷ 12 ∷ 146 ∷ 112 ∷ 2 ∷ 66 ∷ 66 ∷ 67 ∷ 68 ∷ 16 ∷ 0 ∷ 0 ∷ 0 ∷ 0 ∷ 0 ∷ 0 ∷ 0 ∷ 21 ∷ 66 ∷ 66 ∷ 67 ∷ 68 ∷ 0 ∷ 0 ∷ 0 ∷ 0 ∷ 17 ∷ 0 ∷ 0 ∷ 0 ∷ 13 ∷ 63 ∷ 39 ∷ 66 ∷ 74 ∷ 66 ∷ 66 ∷ 67 ∷ 68 ∷ 200 ∷ 0 ∷ 0 ∷ 0 ∷ 21 ∷ 0 ∷ 0 ∷ 0 ∷ 17 ∷ 0 ∷ 0 ∷ 0 ∷ 9 ∷ 12 ∷ 146 ∷ 112 ∷ 9 ∷ 66 ∷ 66 ∷ 67 ∷ 68 ∷ 16 ∷ 0 ∷ 0 ∷ 0 ∷ 0 ∷ 0 ∷ 0 ∷ 0 ∷ 21 ∷ [])) (Whole (shape 0 17 0 ∷ shape 17 20 1 ∷ shape 38 13 0 ∷ shape 51 17 0 ∷ shape 68 20 1 ∷ shape 89 13 0 ∷ []) 102) (66 ∷ 66 ∷ 67 ∷ 68 ∷ 0 ∷ 0 ∷ 0 ∷ 0 ∷ 17 ∷ 0 ∷ 0 ∷ 0 ∷ 0 ∷ 63 ∷ 39 ∷ 66 ∷ 74 ∷ 66 ∷ 66 ∷ 67 ∷ 68 ∷ 200 ∷ 0 ∷ 0 ∷ 0 ∷ 21 ∷ 0 ∷ 0 ∷ 0 ∷ 17 ∷ 0 ∷ 0 ∷ 0 ∷ 7 ∷ 12 ∷ 146 ∷ 112 ∷ 7 ∷ 66 ∷ 66 ∷ 67 ∷ 68 ∷ 16 ∷ 0 ∷ 0 ∷ 0 ∷ 0 ∷ 0 ∷ 0 ∷ 0 ∷ 21 ∷ 66 ∷ 66 ∷ 67 ∷ 68 ∷ 0 ∷ 0 ∷ 0 ∷ 0 ∷ 17 ∷ 0 ∷ 0 ∷ 0 ∷ 0 ∷ 63 ∷ 39 ∷ 66 ∷ 74 ∷ 66 ∷ 66 ∷ 67 ∷ 68 ∷ 200 ∷ 0 ∷ 0 ∷ 0 ∷ 21 ∷ 0 ∷ 0 ∷ 0 ∷ 17 ∷ 0 ∷ 0 ∷ 0 ∷ 0 ∷ 12 ∷ 146 ∷ 112 ∷ 0 ∷ 66 ∷ 66 ∷ 67 ∷ 68 ∷ 16 ∷ 0 ∷ 0 ∷ 0 ∷ 0 ∷ 0 ∷ 0 ∷ 0 ∷ 21 ∷ [])
unfolding answer_from skim_rows skim_payload skim_payload_of skim_picture skim_slices skipped_payload next_checked payload_rows first_payload repeated_payload unit_head head_rows payload_of params_rows params_fields wavelet_index_rows wavelet_rows slices_y_rows denominator_rows slicing_rows matrix_rows header_rows header_fields version_rows size_rows sampling_rows excursion scan_rows rate_rows aspect_rows clean_rows signal_rows colour_rows coding_rows flagged_index field_at spelled read ◌>>=◌ number within number_under flag flag_set byte_end whole_bytes if_set bytes_under word_under byte_under check_at renamed numbers intlog2
counted_through_the_stream_3 = record { ends = refl; writes = refl }

-- fields
fields : Comes (answer_to (cut_machine (frames 1 2)) (66 ∷ 66 ∷ 67 ∷ 68 ∷ 0 ∷ 0 ∷ 0 ∷ 0 ∷ 18 ∷ 0 ∷ 0 ∷ 0 ∷ 0 ∷ 63 ∷ 47 ∷ 66 ∷ 72 ∷ 128 ∷ 66 ∷ 66 ∷ 67 ∷ 68 ∷ 200 ∷ 0 ∷ 0 ∷ 0 ∷ 21 ∷ 0 ∷ 0 ∷ 0 ∷ 18 ∷ 0 ∷ 0 ∷ 0 ∷ 4 ∷ 12 ∷ 146 ∷ 112 ∷ 4 ∷ 66 ∷ 66 ∷ 67 ∷ 68 ∷ 200 ∷ 0 ∷ 0 ∷ 0 ∷ 21 ∷ 0 ∷ 0 ∷ 0 ∷ 21 ∷ 0 ∷ 0 ∷ 0 ∷ 5 ∷ 12 ∷ 146 ∷ 112 ∷ 5 ∷ 66 ∷ 66 ∷ 67 ∷ 68 ∷ 200 ∷ 0 ∷ 0 ∷ 0 ∷ 21 ∷ 0 ∷ 0 ∷ 0 ∷ 21 ∷ 0 ∷ 0 ∷ 0 ∷ 6 ∷ 12 ∷ 146 ∷ 112 ∷ 6 ∷ 66 ∷ 66 ∷ 67 ∷ 68 ∷ 200 ∷ 0 ∷ 0 ∷ 0 ∷ 21 ∷ 0 ∷ 0 ∷ 0 ∷ 21 ∷ 0 ∷ 0 ∷ 0 ∷ 7 ∷ 12 ∷ 146 ∷ 112 ∷ 7 ∷ 66 ∷ 66 ∷ 67 ∷ 68 ∷ 200 ∷ 0 ∷ 0 ∷ 0 ∷ 21 ∷ 0 ∷ 0 ∷ 0 ∷ 21 ∷ 0 ∷ 0 ∷ 0 ∷ 8 ∷ 12 ∷ 146 ∷ 112 ∷ 8 ∷ 66 ∷ 66 ∷ 67 ∷ 68 ∷ 200 ∷ 0 ∷ 0 ∷ 0 ∷ 21 ∷ 0 ∷ 0 ∷ 0 ∷ 21 ∷ 0 ∷ 0 ∷ 0 ∷ 9 ∷ 12 ∷ 146 ∷ 112 ∷ 9 ∷ 66 ∷ 66 ∷ 67 ∷ 68 ∷ 16 ∷ 0 ∷ 0 ∷ 0 ∷ 0 ∷ 0 ∷ 0 ∷ 0 ∷ 21 ∷ [])) (Whole (shape 0 18 0 ∷ shape 18 20 1 ∷ shape 39 20 1 ∷ shape 60 13 0 ∷ []) 73) (66 ∷ 66 ∷ 67 ∷ 68 ∷ 0 ∷ 0 ∷ 0 ∷ 0 ∷ 18 ∷ 0 ∷ 0 ∷ 0 ∷ 0 ∷ 63 ∷ 47 ∷ 66 ∷ 72 ∷ 128 ∷ 66 ∷ 66 ∷ 67 ∷ 68 ∷ 200 ∷ 0 ∷ 0 ∷ 0 ∷ 21 ∷ 0 ∷ 0 ∷ 0 ∷ 18 ∷ 0 ∷ 0 ∷ 0 ∷ 6 ∷ 12 ∷ 146 ∷ 112 ∷ 6 ∷ 66 ∷ 66 ∷ 67 ∷ 68 ∷ 200 ∷ 0 ∷ 0 ∷ 0 ∷ 21 ∷ 0 ∷ 0 ∷ 0 ∷ 21 ∷ 0 ∷ 0 ∷ 0 ∷ 7 ∷ 12 ∷ 146 ∷ 112 ∷ 7 ∷ 66 ∷ 66 ∷ 67 ∷ 68 ∷ 16 ∷ 0 ∷ 0 ∷ 0 ∷ 0 ∷ 0 ∷ 0 ∷ 0 ∷ 21 ∷ [])
unfolding answer_from skim_rows skim_payload skim_payload_of skim_picture skim_slices skipped_payload next_checked payload_rows first_payload repeated_payload unit_head head_rows payload_of params_rows params_fields wavelet_index_rows wavelet_rows slices_y_rows denominator_rows slicing_rows matrix_rows header_rows header_fields version_rows size_rows sampling_rows excursion scan_rows rate_rows aspect_rows clean_rows signal_rows colour_rows coding_rows flagged_index field_at spelled read ◌>>=◌ number within number_under flag flag_set byte_end whole_bytes if_set bytes_under word_under byte_under check_at renamed numbers intlog2
fields = record { ends = refl; writes = refl }

-- fields then frames
fields_then_frames : Comes (answer_to (cut_machine (frames 1 2)) (66 ∷ 66 ∷ 67 ∷ 68 ∷ 0 ∷ 0 ∷ 0 ∷ 0 ∷ 18 ∷ 0 ∷ 0 ∷ 0 ∷ 0 ∷ 63 ∷ 47 ∷ 66 ∷ 72 ∷ 128 ∷ 66 ∷ 66 ∷ 67 ∷ 68 ∷ 200 ∷ 0 ∷ 0 ∷ 0 ∷ 21 ∷ 0 ∷ 0 ∷ 0 ∷ 18 ∷ 0 ∷ 0 ∷ 0 ∷ 4 ∷ 12 ∷ 146 ∷ 112 ∷ 4 ∷ 66 ∷ 66 ∷ 67 ∷ 68 ∷ 200 ∷ 0 ∷ 0 ∷ 0 ∷ 21 ∷ 0 ∷ 0 ∷ 0 ∷ 21 ∷ 0 ∷ 0 ∷ 0 ∷ 5 ∷ 12 ∷ 146 ∷ 112 ∷ 5 ∷ 66 ∷ 66 ∷ 67 ∷ 68 ∷ 16 ∷ 0 ∷ 0 ∷ 0 ∷ 0 ∷ 0 ∷ 0 ∷ 0 ∷ 21 ∷ 66 ∷ 66 ∷ 67 ∷ 68 ∷ 0 ∷ 0 ∷ 0 ∷ 0 ∷ 17 ∷ 0 ∷ 0 ∷ 0 ∷ 13 ∷ 63 ∷ 39 ∷ 66 ∷ 74 ∷ 66 ∷ 66 ∷ 67 ∷ 68 ∷ 200 ∷ 0 ∷ 0 ∷ 0 ∷ 21 ∷ 0 ∷ 0 ∷ 0 ∷ 17 ∷ 0 ∷ 0 ∷ 0 ∷ 3 ∷ 12 ∷ 146 ∷ 112 ∷ 3 ∷ 66 ∷ 66 ∷ 67 ∷ 68 ∷ 16 ∷ 0 ∷ 0 ∷ 0 ∷ 0 ∷ 0 ∷ 0 ∷ 0 ∷ 21 ∷ [])) (Whole (shape 0 17 0 ∷ shape 17 20 1 ∷ shape 38 13 0 ∷ []) 51) (66 ∷ 66 ∷ 67 ∷ 68 ∷ 0 ∷ 0 ∷ 0 ∷ 0 ∷ 17 ∷ 0 ∷ 0 ∷ 0 ∷ 0 ∷ 63 ∷ 39 ∷ 66 ∷ 74 ∷ 66 ∷ 66 ∷ 67 ∷ 68 ∷ 200 ∷ 0 ∷ 0 ∷ 0 ∷ 21 ∷ 0 ∷ 0 ∷ 0 ∷ 17 ∷ 0 ∷ 0 ∷ 0 ∷ 3 ∷ 12 ∷ 146 ∷ 112 ∷ 3 ∷ 66 ∷ 66 ∷ 67 ∷ 68 ∷ 16 ∷ 0 ∷ 0 ∷ 0 ∷ 0 ∷ 0 ∷ 0 ∷ 0 ∷ 21 ∷ [])
unfolding answer_from skim_rows skim_payload skim_payload_of skim_picture skim_slices skipped_payload next_checked payload_rows first_payload repeated_payload unit_head head_rows payload_of params_rows params_fields wavelet_index_rows wavelet_rows slices_y_rows denominator_rows slicing_rows matrix_rows header_rows header_fields version_rows size_rows sampling_rows excursion scan_rows rate_rows aspect_rows clean_rows signal_rows colour_rows coding_rows flagged_index field_at spelled read ◌>>=◌ number within number_under flag flag_set byte_end whole_bytes if_set bytes_under word_under byte_under check_at renamed numbers intlog2
fields_then_frames = record { ends = refl; writes = refl }

-- single field before refusal
single_field_before_refusal : Comes (answer_to (cut_machine (frames 1 9)) (66 ∷ 66 ∷ 67 ∷ 68 ∷ 0 ∷ 0 ∷ 0 ∷ 0 ∷ 18 ∷ 0 ∷ 0 ∷ 0 ∷ 0 ∷ 63 ∷ 47 ∷ 66 ∷ 72 ∷ 128 ∷ 66 ∷ 66 ∷ 67 ∷ 68 ∷ 200 ∷ 0 ∷ 0 ∷ 0 ∷ 21 ∷ 0 ∷ 0 ∷ 0 ∷ 18 ∷ 0 ∷ 0 ∷ 0 ∷ 4 ∷ 12 ∷ 146 ∷ 112 ∷ 4 ∷ 66 ∷ 66 ∷ 67 ∷ 68 ∷ 200 ∷ 0 ∷ 0 ∷ 0 ∷ 21 ∷ 0 ∷ 0 ∷ 0 ∷ 21 ∷ 0 ∷ 0 ∷ 0 ∷ 5 ∷ 12 ∷ 146 ∷ 112 ∷ 5 ∷ 66 ∷ 66 ∷ 67 ∷ 68 ∷ 200 ∷ 0 ∷ 0 ∷ 0 ∷ 21 ∷ 0 ∷ 0 ∷ 0 ∷ 21 ∷ 0 ∷ 0 ∷ 0 ∷ 6 ∷ 12 ∷ 146 ∷ 112 ∷ 6 ∷ [])) (Refused (record { place = 81; reason = reasons.Truncated })) (66 ∷ 66 ∷ 67 ∷ 68 ∷ 0 ∷ 0 ∷ 0 ∷ 0 ∷ 18 ∷ 0 ∷ 0 ∷ 0 ∷ 0 ∷ 63 ∷ 47 ∷ 66 ∷ 72 ∷ 128 ∷ 66 ∷ 66 ∷ 67 ∷ 68 ∷ 200 ∷ 0 ∷ 0 ∷ 0 ∷ 21 ∷ 0 ∷ 0 ∷ 0 ∷ 18 ∷ 0 ∷ 0 ∷ 0 ∷ 6 ∷ 12 ∷ 146 ∷ 112 ∷ 6 ∷ [])
unfolding answer_from skim_rows skim_payload skim_payload_of skim_picture skim_slices skipped_payload next_checked payload_rows first_payload repeated_payload unit_head head_rows payload_of params_rows params_fields wavelet_index_rows wavelet_rows slices_y_rows denominator_rows slicing_rows matrix_rows header_rows header_fields version_rows size_rows sampling_rows excursion scan_rows rate_rows aspect_rows clean_rows signal_rows colour_rows coding_rows flagged_index field_at spelled read ◌>>=◌ number within number_under flag flag_set byte_end whole_bytes if_set bytes_under word_under byte_under check_at renamed numbers intlog2
single_field_before_refusal = record { ends = refl; writes = refl }

-- half frame
half_frame : Comes (answer_to (cut_machine (frames 0 1)) (66 ∷ 66 ∷ 67 ∷ 68 ∷ 0 ∷ 0 ∷ 0 ∷ 0 ∷ 18 ∷ 0 ∷ 0 ∷ 0 ∷ 0 ∷ 63 ∷ 47 ∷ 66 ∷ 72 ∷ 128 ∷ 66 ∷ 66 ∷ 67 ∷ 68 ∷ 200 ∷ 0 ∷ 0 ∷ 0 ∷ 21 ∷ 0 ∷ 0 ∷ 0 ∷ 18 ∷ 0 ∷ 0 ∷ 0 ∷ 4 ∷ 12 ∷ 146 ∷ 112 ∷ 4 ∷ 66 ∷ 66 ∷ 67 ∷ 68 ∷ 16 ∷ 0 ∷ 0 ∷ 0 ∷ 0 ∷ 0 ∷ 0 ∷ 0 ∷ 21 ∷ [])) (Refused (record { place = 43; reason = reasons.HalfFrame })) (66 ∷ 66 ∷ 67 ∷ 68 ∷ 0 ∷ 0 ∷ 0 ∷ 0 ∷ 18 ∷ 0 ∷ 0 ∷ 0 ∷ 0 ∷ 63 ∷ 47 ∷ 66 ∷ 72 ∷ 128 ∷ 66 ∷ 66 ∷ 67 ∷ 68 ∷ 200 ∷ 0 ∷ 0 ∷ 0 ∷ 21 ∷ 0 ∷ 0 ∷ 0 ∷ 18 ∷ 0 ∷ 0 ∷ 0 ∷ 4 ∷ 12 ∷ 146 ∷ 112 ∷ 4 ∷ [])
unfolding answer_from skim_rows skim_payload skim_payload_of skim_picture skim_slices skipped_payload next_checked payload_rows first_payload repeated_payload unit_head head_rows payload_of params_rows params_fields wavelet_index_rows wavelet_rows slices_y_rows denominator_rows slicing_rows matrix_rows header_rows header_fields version_rows size_rows sampling_rows excursion scan_rows rate_rows aspect_rows clean_rows signal_rows colour_rows coding_rows flagged_index field_at spelled read ◌>>=◌ number within number_under flag flag_set byte_end whole_bytes if_set bytes_under word_under byte_under check_at renamed numbers intlog2
half_frame = record { ends = refl; writes = refl }

-- front: end stands since a byte follows
front_end_stands_since_a_byte_follows : Comes (answer_to (cut_machine (frames 0 9)) (66 ∷ 66 ∷ 67 ∷ 68 ∷ 0 ∷ 0 ∷ 0 ∷ 0 ∷ 17 ∷ 0 ∷ 0 ∷ 0 ∷ 0 ∷ 63 ∷ 39 ∷ 66 ∷ 74 ∷ 66 ∷ 66 ∷ 67 ∷ 68 ∷ 200 ∷ 0 ∷ 0 ∷ 0 ∷ 21 ∷ 0 ∷ 0 ∷ 0 ∷ 17 ∷ 0 ∷ 0 ∷ 0 ∷ 0 ∷ 12 ∷ 146 ∷ 112 ∷ 1 ∷ 66 ∷ 66 ∷ 67 ∷ 68 ∷ 200 ∷ 0 ∷ 0 ∷ 0 ∷ 21 ∷ 0 ∷ 0 ∷ 0 ∷ 21 ∷ 0 ∷ 0 ∷ 0 ∷ 1 ∷ 12 ∷ 146 ∷ 112 ∷ 0 ∷ 66 ∷ 66 ∷ 67 ∷ 68 ∷ 16 ∷ 0 ∷ 0 ∷ 0 ∷ 0 ∷ 0 ∷ 0 ∷ 0 ∷ 21 ∷ 66 ∷ [])) (Refused (record { place = 72; reason = reasons.Truncated })) (66 ∷ 66 ∷ 67 ∷ 68 ∷ 0 ∷ 0 ∷ 0 ∷ 0 ∷ 17 ∷ 0 ∷ 0 ∷ 0 ∷ 0 ∷ 63 ∷ 39 ∷ 66 ∷ 74 ∷ 66 ∷ 66 ∷ 67 ∷ 68 ∷ 200 ∷ 0 ∷ 0 ∷ 0 ∷ 21 ∷ 0 ∷ 0 ∷ 0 ∷ 17 ∷ 0 ∷ 0 ∷ 0 ∷ 0 ∷ 12 ∷ 146 ∷ 112 ∷ 1 ∷ 66 ∷ 66 ∷ 67 ∷ 68 ∷ 200 ∷ 0 ∷ 0 ∷ 0 ∷ 21 ∷ 0 ∷ 0 ∷ 0 ∷ 21 ∷ 0 ∷ 0 ∷ 0 ∷ 1 ∷ 12 ∷ 146 ∷ 112 ∷ 0 ∷ 66 ∷ 66 ∷ 67 ∷ 68 ∷ 16 ∷ 0 ∷ 0 ∷ 0 ∷ 0 ∷ 0 ∷ 0 ∷ 0 ∷ 21 ∷ [])
unfolding answer_from skim_rows skim_payload skim_payload_of skim_picture skim_slices skipped_payload next_checked payload_rows first_payload repeated_payload unit_head head_rows payload_of params_rows params_fields wavelet_index_rows wavelet_rows slices_y_rows denominator_rows slicing_rows matrix_rows header_rows header_fields version_rows size_rows sampling_rows excursion scan_rows rate_rows aspect_rows clean_rows signal_rows colour_rows coding_rows flagged_index field_at spelled read ◌>>=◌ number within number_under flag flag_set byte_end whole_bytes if_set bytes_under word_under byte_under check_at renamed numbers intlog2
front_end_stands_since_a_byte_follows = record { ends = refl; writes = refl }

-- front: nothing chosen, whole sequence stands
front_nothing_chosen_whole_sequence_stands : Comes (answer_to (cut_machine (frames 7 9)) (66 ∷ 66 ∷ 67 ∷ 68 ∷ 0 ∷ 0 ∷ 0 ∷ 0 ∷ 17 ∷ 0 ∷ 0 ∷ 0 ∷ 0 ∷ 63 ∷ 39 ∷ 66 ∷ 74 ∷ 66 ∷ 66 ∷ 67 ∷ 68 ∷ 200 ∷ 0 ∷ 0 ∷ 0 ∷ 21 ∷ 0 ∷ 0 ∷ 0 ∷ 17 ∷ 0 ∷ 0 ∷ 0 ∷ 0 ∷ 12 ∷ 146 ∷ 112 ∷ 1 ∷ 66 ∷ 66 ∷ 67 ∷ 68 ∷ 200 ∷ 0 ∷ 0 ∷ 0 ∷ 21 ∷ 0 ∷ 0 ∷ 0 ∷ 21 ∷ 0 ∷ 0 ∷ 0 ∷ 1 ∷ 12 ∷ 146 ∷ 112 ∷ 0 ∷ 66 ∷ 66 ∷ 67 ∷ 68 ∷ 16 ∷ 0 ∷ 0 ∷ 0 ∷ 0 ∷ 0 ∷ 0 ∷ 0 ∷ 21 ∷ 66 ∷ [])) (Refused (record { place = 72; reason = reasons.Truncated })) ([])
unfolding answer_from skim_rows skim_payload skim_payload_of skim_picture skim_slices skipped_payload next_checked payload_rows first_payload repeated_payload unit_head head_rows payload_of params_rows params_fields wavelet_index_rows wavelet_rows slices_y_rows denominator_rows slicing_rows matrix_rows header_rows header_fields version_rows size_rows sampling_rows excursion scan_rows rate_rows aspect_rows clean_rows signal_rows colour_rows coding_rows flagged_index field_at spelled read ◌>>=◌ number within number_under flag flag_set byte_end whole_bytes if_set bytes_under word_under byte_under check_at renamed numbers intlog2
front_nothing_chosen_whole_sequence_stands = record { ends = refl; writes = refl }

-- empty sequence first
empty_sequence_first : Comes (answer_to (cut_machine (frames 5 9)) (66 ∷ 66 ∷ 67 ∷ 68 ∷ 0 ∷ 0 ∷ 0 ∷ 0 ∷ 17 ∷ 0 ∷ 0 ∷ 0 ∷ 0 ∷ 63 ∷ 39 ∷ 66 ∷ 74 ∷ 66 ∷ 66 ∷ 67 ∷ 68 ∷ 16 ∷ 0 ∷ 0 ∷ 0 ∷ 0 ∷ 0 ∷ 0 ∷ 0 ∷ 17 ∷ 66 ∷ 66 ∷ 67 ∷ 68 ∷ 0 ∷ 0 ∷ 0 ∷ 0 ∷ 17 ∷ 0 ∷ 0 ∷ 0 ∷ 13 ∷ 63 ∷ 39 ∷ 66 ∷ 74 ∷ 66 ∷ 66 ∷ 67 ∷ 68 ∷ 200 ∷ 0 ∷ 0 ∷ 0 ∷ 21 ∷ 0 ∷ 0 ∷ 0 ∷ 17 ∷ 0 ∷ 0 ∷ 0 ∷ 3 ∷ 12 ∷ 146 ∷ 112 ∷ 3 ∷ 66 ∷ 66 ∷ 67 ∷ 68 ∷ 16 ∷ 0 ∷ 0 ∷ 0 ∷ 0 ∷ 0 ∷ 0 ∷ 0 ∷ 21 ∷ [])) (Whole (shape 0 17 0 ∷ shape 17 13 0 ∷ []) 30) (66 ∷ 66 ∷ 67 ∷ 68 ∷ 0 ∷ 0 ∷ 0 ∷ 0 ∷ 17 ∷ 0 ∷ 0 ∷ 0 ∷ 0 ∷ 63 ∷ 39 ∷ 66 ∷ 74 ∷ 66 ∷ 66 ∷ 67 ∷ 68 ∷ 16 ∷ 0 ∷ 0 ∷ 0 ∷ 0 ∷ 0 ∷ 0 ∷ 0 ∷ 17 ∷ [])
unfolding answer_from skim_rows skim_payload skim_payload_of skim_picture skim_slices skipped_payload next_checked payload_rows first_payload repeated_payload unit_head head_rows payload_of params_rows params_fields wavelet_index_rows wavelet_rows slices_y_rows denominator_rows slicing_rows matrix_rows header_rows header_fields version_rows size_rows sampling_rows excursion scan_rows rate_rows aspect_rows clean_rows signal_rows colour_rows coding_rows flagged_index field_at spelled read ◌>>=◌ number within number_under flag flag_set byte_end whole_bytes if_set bytes_under word_under byte_under check_at renamed numbers intlog2
empty_sequence_first = record { ends = refl; writes = refl }
