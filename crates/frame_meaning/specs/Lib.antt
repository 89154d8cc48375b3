pub mod FrameText
