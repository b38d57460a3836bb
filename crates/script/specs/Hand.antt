-- What goes with the move in hand.
use Rattle.std.specs.Prelude.{Bool, true, false}
use Rattle.script.specs.declared.hand.InHand.{InHand}
use Rattle.script.specs.declared.hand.InHand.TheVariants.{Nothing, Chosen, Copied}
use Rattle.script.specs.declared.request.Request.{Request}
use Rattle.script.specs.declared.request.Request.TheVariants as request

abbrev pub is_empty : InHand → Bool
is_empty Nothing = true
is_empty Chosen = false
is_empty Copied = false

abbrev pub is_chosen : InHand → Bool
is_chosen Nothing = false
is_chosen Chosen = true
is_chosen Copied = false

abbrev pub is_copied : InHand → Bool
is_copied Nothing = false
is_copied Chosen = false
is_copied Copied = true

abbrev pub is_held : InHand → Bool
is_held Nothing = false
is_held Chosen = true
is_held Copied = true

-- choose wants an empty hand, copy a chosen move, settle a copied one and give-up either; all else goes with any hand
abbrev pub allowed : Request → InHand → Bool
allowed (request.Begin s m) hand = true
allowed (request.Read s k) hand = true
allowed (request.Put s k v) hand = true
allowed (request.Drop s k) hand = true
allowed (request.Commit s) hand = true
allowed (request.Abandon s) hand = true
allowed (request.Choose k) hand = is_empty hand
allowed request.Copy hand = is_chosen hand
allowed request.Settle hand = is_copied hand
allowed request.GiveUp hand = is_held hand
allowed request.Sweep hand = true
allowed request.Collect hand = true
