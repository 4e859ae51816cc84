-- The limit of axes fits what a port sample carries: a port word, and the masks of its answer.
use Prim.Native.Nat.{◌*◌, ◌≤◌}
use mathlib.Core.Path.{◌≡◌, refl}
use lib.Dec.{lit≤}
use Rattle.axis.specs.Limit.{most_axes}

-- A port word is just full with four bits of every axis.
pub port_room : most_axes * 4 ≡ 64
unfolding most_axes
port_room = refl

-- A mask has room for one bit of every axis.
pub mask_room : most_axes ≤ 16
unfolding most_axes
mask_room = lit≤ tt
