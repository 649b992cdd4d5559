-- Memory that was taken for rows, and isn't touched.
use Rattle.std.specs.Global.{Global}
use Rattle.std.specs.declared.vec.Vec.{Vec}
use Rattle.std.specs.Prelude.{◌≡◌, ℕ, ◌*◌, ◌≤◌, [], length, vec_capacity}

-- room for h rows of w numbers each, and none in it; and a row of any numbers
pub record HasRoomAlone {X : Type 0} (w h : ℕ) (room spare : Vec X Global) : Type 0 where
  pub width : w ≤ 8208
  pub fits : h ≤ 8208
  pub none : room.items ≡ []
  pub enough : h * w ≤ vec_capacity room
  pub spare_width : length spare.items ≡ w
