mod Agreeing
mod EachAlone
mod Going
mod Spelling
mod Splits
mod Telling
