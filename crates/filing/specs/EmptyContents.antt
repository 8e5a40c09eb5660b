-- What an empty filing says, which is what the reading of a refused one holds. Definitions only.
use Rattle.std.specs.Prelude.{[]}
use Rattle.filing_contents.specs.Contents.{Contents}
use Rattle.filing_decode.specs.Contents.{contents_of}

-- every number is 0
unfoldable pub empty_contents : Contents
empty_contents = contents_of []
