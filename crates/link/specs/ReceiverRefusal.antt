-- Where the calls of the receiver are refused, and by which number.
use Rattle.std.specs.Prelude.{ℕ, Bool, cond, List, Some, None, Option, nat_lt}
use Rattle.settings.specs.declared.Settings.{Settings}
use Rattle.mapping.specs.Meaning.{MappingMeaning}
use Rattle.link.specs.Refusal.{memory_fits, block_fits}
use Rattle.link.specs.declared.reception.FeedFault as feed-fault
use Rattle.link.specs.declared.reception.FeedFault.{FeedFault}
use Rattle.link.specs.declared.reception.NextFault as next-fault
use Rattle.link.specs.declared.reception.NextFault.{NextFault}
use Rattle.link.specs.declared.reception.ShowFault as show-fault
use Rattle.link.specs.declared.reception.ShowFault.{ShowFault}

-- the number of each refusal of feed
abbrev pub feed_number : FeedFault → ℕ
feed_number feed-fault.TheVariants.Memory = 11
feed_number feed-fault.TheVariants.Waiting = 15

-- the number of each refusal of next
abbrev pub next_number : NextFault → ℕ
next_number next-fault.TheVariants.Memory = 11
next_number next-fault.TheVariants.NoneWaits = 16

-- the number of each refusal of show
abbrev pub show_number : ShowFault → ℕ
show_number show-fault.TheVariants.Memory = 11
show_number show-fault.TheVariants.NotNext = 17

-- Frames wait: not all rows of the block are answered.
abbrev pub frames_wait : Settings → ℕ → Bool
frames_wait s answered = nat_lt answered s.rows

-- feed, where so many rows are answered: the first check that fails
abbrev pub feed_refusal : Settings → MappingMeaning → ℕ → List ℕ → Option FeedFault
feed_refusal s m answered memory =
    cond (block_fits s m memory) (
    cond (frames_wait s answered) (Some feed-fault.TheVariants.Waiting) None
    ) (Some feed-fault.TheVariants.Memory)

-- next, likewise
abbrev pub next_refusal : Settings → ℕ → List ℕ → Option NextFault
next_refusal s answered memory =
    cond (memory_fits s memory) (
    cond (frames_wait s answered) None (Some next-fault.TheVariants.NoneWaits)
    ) (Some next-fault.TheVariants.Memory)

-- show, by whether the latest accepted call of feed and next was next
abbrev pub show_refusal : Settings → Bool → List ℕ → Option ShowFault
show_refusal s after_next memory =
    cond (memory_fits s memory) (
    cond after_next None (Some show-fault.TheVariants.NotNext)
    ) (Some show-fault.TheVariants.Memory)
