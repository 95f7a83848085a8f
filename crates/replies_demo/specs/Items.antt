-- An item of the demonstration as a record that a get shows.
use Rattle.replies.specs.Reply.{Shown}
use Rattle.replies_demo.specs.declared.Item.{Item}

abbrev pub shown_of : Item → Shown
shown_of i = record { key = i.key.now; flags = i.flags; block = i.«data».now; cas = i.cas }
