-- The lemmas of which every listing is proved: what an output received after some lines. They are public,
-- as those of std are.
pub mod Written
