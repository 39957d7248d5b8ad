-- Part: the promise; every call exactly.
-- What a call hands out: nothing, one frame, or several in order.
use Rattle.std.specs.Prelude.{◌≡◌, List, [], ◌∷◌, Option, Some, None, Bool, true, false}
use Rattle.amqp_session.specs.declared.frame.SessionFrame.{SessionFrame}
use Rattle.amqp_session.specs.declared.frame.SessionOutgoingItem.{SessionOutgoingItem}
use Rattle.amqp_session.specs.declared.frame.SessionOutgoingItem.TheVariants.{SingleFrame, MultipleFrames}

-- its frames
abbrev pub item_frames : Option SessionOutgoingItem → List SessionFrame
item_frames None = []
item_frames (Some (SingleFrame f)) = f ∷ []
item_frames (Some (MultipleFrames fs)) = fs.items

-- These frames are handed out: as a list where `as_list` is true, even for one frame; never as an empty list.
abbrev pub HandsOut : Bool → List SessionFrame → Option SessionOutgoingItem → Type 0
HandsOut as_list frames None = frames ≡ []
HandsOut as_list frames (Some (SingleFrame f)) = (as_list ≡ false) × (frames ≡ f ∷ [])
HandsOut as_list frames (Some (MultipleFrames fs)) = (as_list ≡ true) × (frames ≡ fs.items) × ¬ (frames ≡ [])

abbrev pub is_some_list : List SessionFrame → Bool
is_some_list [] = false
is_some_list (f ∷ fs) = true

-- the frame that stands first, if any
abbrev pub first_frame : Option SessionFrame → List SessionFrame
first_frame None = []
first_frame (Some f) = f ∷ []
