-- What a service has read and not taken yet.
use Rattle.std.specs.Prelude.{ℕ, List, drop, take, Option}
use Rattle.std.specs.Io.KnownBytes.{prepend_known}
use Rattle.gm_json.specs.declared.feed.Feed.{Feed}

-- the bytes that are read and not taken
abbrev pub unread : Feed → List ℕ
unread feed = drop feed.from (take feed.to feed.block.items)

-- all bytes that are not taken, where those of the input are known
abbrev pub ahead : Feed → Option (List ℕ) → Option (List ℕ)
ahead feed input = prepend_known (unread feed) input
