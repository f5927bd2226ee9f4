use Rattle.sfi_check.proofs.feed.Feed.feed.Goals as goal

pub returns : goal.returns
returns c = λ before h. c.feed_into.ensures.fed (record {}) before h
