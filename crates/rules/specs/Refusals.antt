-- The number and the layer of each refusal.
use Rattle.std.specs.Prelude.{ℕ, Bool, true, false}
use Rattle.cold.specs.declared.store.ColdRefusal.{ColdRefusal}
use Rattle.cold.specs.declared.store.ColdRefusal.TheVariants.{There, Full}
use Rattle.rules.specs.declared.answers.Side.{Side}
use Rattle.rules.specs.declared.answers.Side.TheVariants as side
use Rattle.rules.specs.declared.answers.Layer.{Layer}
use Rattle.rules.specs.declared.answers.Layer.TheVariants as layer
use Rattle.rules.specs.declared.answers.Refusal.{Refusal}
use Rattle.rules.specs.declared.answers.Refusal.TheVariants as refusal

abbrev pub number_of : Refusal → ℕ
number_of (refusal.OutOfRange x) = 1
number_of refusal.NoSession = 2
number_of refusal.AlreadyOpen = 3
number_of refusal.NotOpen = 4
number_of refusal.Conflict = 5
number_of refusal.LedgerFull = 6
number_of refusal.HotFull = 7
number_of (refusal.MemoFull x) = 8
number_of refusal.StaleRead = 9
number_of refusal.ClockAtEnd = 10
number_of refusal.NoRow = 11
number_of refusal.AlreadyMarked = 12
number_of refusal.TagsAtEnd = 13
number_of refusal.MoveOver = 14
number_of (refusal.Cold (Full count)) = 15
number_of (refusal.Cold There) = 16

abbrev pub side_layer : Side → Layer
side_layer side.Seller = layer.Seller
side_layer side.Mover = layer.Move

abbrev pub layer_of : Refusal → Layer
layer_of (refusal.OutOfRange x) = side_layer x
layer_of refusal.NoSession = layer.Seller
layer_of refusal.AlreadyOpen = layer.Seller
layer_of refusal.NotOpen = layer.Seller
layer_of refusal.Conflict = layer.Seller
layer_of refusal.LedgerFull = layer.Seller
layer_of refusal.HotFull = layer.Seller
layer_of (refusal.MemoFull x) = side_layer x
layer_of refusal.StaleRead = layer.Seller
layer_of refusal.ClockAtEnd = layer.Seller
layer_of refusal.NoRow = layer.Move
layer_of refusal.AlreadyMarked = layer.Move
layer_of refusal.TagsAtEnd = layer.Move
layer_of refusal.MoveOver = layer.Move
layer_of (refusal.Cold inside) = layer.Move

-- the layer of the refusal inside a copy's
abbrev pub cold_layer : ColdRefusal → Layer
cold_layer There = layer.Cold
cold_layer (Full count) = layer.Cold

-- a commit that is refused so closes its session
abbrev pub is_stale : Refusal → Bool
is_stale (refusal.OutOfRange x) = false
is_stale refusal.NoSession = false
is_stale refusal.AlreadyOpen = false
is_stale refusal.NotOpen = false
is_stale refusal.Conflict = false
is_stale refusal.LedgerFull = false
is_stale refusal.HotFull = false
is_stale (refusal.MemoFull x) = false
is_stale refusal.StaleRead = true
is_stale refusal.ClockAtEnd = false
is_stale refusal.NoRow = false
is_stale refusal.AlreadyMarked = false
is_stale refusal.TagsAtEnd = false
is_stale refusal.MoveOver = false
is_stale (refusal.Cold inside) = false
