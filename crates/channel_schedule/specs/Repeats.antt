-- Streams that repeat their units: what their schedules share, however long they are.
use Rattle.std.specs.Prelude.{◌≡◌, ℕ, zero, suc, ◌+◌, ◌*◌, ◌<◌, ◌≤◌, List, [], ◌∷◌, ◌++◌}
use Rattle.slice_geometry.specs.declared.unit_list.UnitShape.{UnitShape}
use Rattle.slice_geometry.specs.UnitLengths.{IsUnitAllowed, UnitShapesSeen, ShapesInTurn, shape_length}
use Rattle.channel_schedule.specs.declared.schedule.Rate.{Rate}
use Rattle.channel_schedule.specs.Slices.{slots_to}
use Rattle.channel_schedule.specs.Plans.{plan_delay, plan_of}

-- ---- streams by their units, without their places

-- a unit without slices, of so many bytes
abbrev pub plain : ℕ → UnitShape
plain bytes = record { start = 0; head = bytes; slices = 0; a = 1; b = 1 }

-- these units so many times over
abbrev pub units_repeated : ℕ → List UnitShape → List UnitShape
units_repeated zero units = []
units_repeated (suc n) units = units ++ units_repeated n units

-- each unit starts where the one before it ends, the first at this place
abbrev pub units_placed : ℕ → List UnitShape → List UnitShape
units_placed place [] = []
units_placed place (unit ∷ units) = record unit { start = place } ∷ units_placed (place + shape_length unit) units

-- the bytes that they have together
abbrev pub length_of : List UnitShape → ℕ
length_of [] = 0
length_of (unit ∷ units) = shape_length unit + length_of units

-- a stream of these units
abbrev pub stream_of_units : List UnitShape → UnitShapesSeen
stream_of_units units = record { units = units_placed 0 units; total = length_of units; spare = 0 }

-- a sequence of n pictures of one shape, between a header and an end of so many bytes
abbrev pub sequence : ℕ → ℕ → UnitShape → ℕ → List UnitShape
sequence header end picture n = plain header ∷ units_repeated n (picture ∷ []) ++ plain end ∷ []

-- the slots from a picture of this shape to the next
abbrev pub picture_slots : UnitShape → ℕ → ℕ
picture_slots picture idle = picture.slices + idle

-- ---- what the schedules share

-- At this rate the stream of n such parts, n at least 2, has the plan of the stream of two, and n at least 1 the delay of
-- the stream of one.
pub record PlansAreKnown (stream : ℕ → UnitShapesSeen) (rate : Rate) (idle : ℕ) : Type 0 where
  pub plan : (n : ℕ) → 2 ≤ n → plan_of (stream n) rate idle ≡ plan_of (stream 2) rate idle
  pub delay : (n : ℕ) → 1 ≤ n → plan_delay (stream n) rate idle ≡ plan_delay (stream 1) rate idle

-- In the stream of n such parts, slice j of part p is taken p times the slots of a part later than slice j of the first.
abbrev pub SlotsAreKnown : (ℕ → UnitShapesSeen) → ℕ → ℕ → ℕ → Type 0
SlotsAreKnown stream idle slices slots = (n p j : ℕ) → p < n → j < slices
    → slots_to idle (stream n).units (p * slices + j) ≡ p * slots + slots_to idle (stream n).units j

-- Of a family of streams the units stand in turn, so that each has one plan, and both the plans and the slots are known.
pub record AreKnown (stream : ℕ → UnitShapesSeen) (rate : Rate) (idle slices slots : ℕ) : Type 0 where
  pub in_turn : (n : ℕ) → ShapesInTurn 0 (stream n).units (stream n).total
  pub plans : PlansAreKnown stream rate idle
  pub taken : SlotsAreKnown stream idle slices slots

-- n pictures in one sequence, a picture's bytes arriving in its slots
abbrev pub PicturesAreKnown : Type 0
PicturesAreKnown = (header end : ℕ) (picture : UnitShape) (idle : ℕ) → IsUnitAllowed picture → 1 ≤ picture.slices
    → AreKnown (λ n. stream_of_units (sequence header end picture n))
    (record { num = shape_length picture; den = picture_slots picture idle }) idle picture.slices (picture_slots picture idle)

-- n sequences of so many pictures, the bytes of a sequence arriving in the slots of its pictures
abbrev pub GroupsAreKnown : Type 0
GroupsAreKnown = (header end : ℕ) (picture : UnitShape) (pictures idle : ℕ) → IsUnitAllowed picture → 1 ≤ picture.slices
    → 1 ≤ pictures
    → AreKnown (λ n. stream_of_units (units_repeated n (sequence header end picture pictures)))
    (record { num = length_of (sequence header end picture pictures); den = pictures * picture_slots picture idle }) idle
    (pictures * picture.slices) (pictures * picture_slots picture idle)
