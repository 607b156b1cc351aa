pub mod Press
