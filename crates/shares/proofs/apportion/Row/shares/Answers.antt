-- `shares` meets its contract. Assumes nothing.
use Rattle.shares.specs.Inner.ShareRows.{account_shares, row_shares}
use Rattle.shares.proofs.apportion.Row.shares.Goals as goal

pub returns : goal.returns
unfolding row_shares account_shares
returns c =
    rw (c.share_behind-brokered_penalized.ensures.0, c.share_behind-retail_penalized.ensures.0, c.share_behind-held.ensures.0)
