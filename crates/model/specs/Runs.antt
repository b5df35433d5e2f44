-- A run: it begins with a fresh start and keeps one configuration, and each call gets the state and the lent slices as the call before left them.
use Rattle.std.specs.Prelude.{List, [], ◌∷◌}
use Rattle.setup.specs.declared.Setup.{Setup}
use Rattle.port.specs.declared.Operation.{Operation}
use Rattle.port.specs.declared.Reply.{Reply}
use Rattle.model.specs.declared.State.{State}
use Rattle.model.specs.declared.Cycled.{Cycled}
use Rattle.model.specs.Lent.{Lent}
use Rattle.model.specs.Calls.{fresh_of, cycle_of}

-- the state and the lent slices between two calls
abbrev pub Machine : Type 0
Machine = State × Lent

-- what a call leaves
abbrev pub left_by : Cycled × Lent → Machine
left_by (r, x) = (r.state, x)

abbrev pub call : Setup → Operation → Machine → Cycled × Lent
call s op (t, x) = cycle_of s t op x

abbrev pub after : Setup → Operation → Machine → Machine
after s op w = left_by (call s op w)

abbrev pub reply_of : Setup → Operation → Machine → Reply
reply_of s op w = (call s op w).0.reply

-- the replies to a list of offered operations, call by call
unfoldable pub replies : Setup → List Operation → Machine → List Reply
replies s [] w = []
replies s (op ∷ ops) w = reply_of s op w ∷ replies s ops (after s op w)

-- what they leave
unfoldable pub after_all : Setup → List Operation → Machine → Machine
after_all s [] w = w
after_all s (op ∷ ops) w = after_all s ops (after s op w)

-- what a fresh start leaves
abbrev pub fresh : Setup → Machine → Machine
fresh s (t, x) = ((fresh_of s t x).0.state, (fresh_of s t x).1)
